-- What each step does to the scopes and to the table of names.
use Rattle.std.proofs.Common.{◌≡◌, ℕ, ◌+◌, ◌-◌, ◌<◌, ◌≤◌, Bool, true, false, cond, ◌==◌, Option, None, Some, List, [], ◌∷◌, ◌++◌, length, Vec, refl, sym, ◌∙◌, ap, arith, rules}
use Rattle.std.specs.declared.alloc.Global.{Global}
use Rattle.std.specs.Option.{IsSome, is_some, option_map}
use Rattle.std.specs.Str.{bytes_eq}
use Rattle.std.specs.Cmp.Lexicographic.{bytes_decides}
use Rattle.std.specs.BTreeMap.{BTreeMap}
use Rattle.std.specs.Map.{update}
use Rattle.std.proofs.lemmas.Bool.Decides.{nat_tests}
use Rattle.name_scope.specs.declared.sym.Sym.{Sym}
use Rattle.name_scope.specs.declared.names.Seen.{Seen}
use Rattle.name_scope.specs.declared.scopes.Step.{Step}
use Rattle.name_scope.specs.declared.scopes.Step.TheVariants.{Entered, Added}
use Rattle.name_scope.specs.Scopes.{Scope, in_scope, or_else, innermost, first_scope, outer_scopes, with_name}
use Rattle.name_scope.specs.Kept.{held, seen_first, seen, is_of, piled, pile_of, scopes_of, IsKept}

piled_last : (front : List Step) (last : Step) (below : List Step) → piled (front ++ last ∷ []) below ≡ last ∷ piled front below
piled_last [] last below = refl
piled_last (first ∷ rest) last below = piled_last rest last (first ∷ below)

-- the last of a row of steps lies on top
pub pile_last : (front : List Step) (last : Step) → pile_of (front ++ last ∷ []) ≡ last ∷ pile_of front
pile_last front last = piled_last front last []

first_sym : (o : Option Sym) (depth : ℕ) (other : Option Sym) (rest : Option Seen) → other ≡ option_map (λ s. s.sym) rest → or_else o other ≡ option_map (λ s. s.sym) (seen_first o depth rest)
first_sym None depth other rest e = e
first_sym (Some x) depth other rest e = refl

-- what a name stands for is what it stands for in the scope where it is seen
pub innermost_seen : (scopes : List Scope) (name : List ℕ) → innermost scopes name ≡ option_map (λ s. s.sym) (seen scopes name)
innermost_seen [] name = refl
innermost_seen (scope ∷ outer) name = first_sym (in_scope scope name) _ _ _ (innermost_seen outer name)

apart_numbers : (l d : ℕ) → l < d → (l == d) ≡ false
apart_numbers l d h = grind (arith, nat_tests)

same_number : (l : ℕ) → (l == l) ≡ true
same_number l = grind (arith, nat_tests)

above_first : (o : Option Sym) (l d : ℕ) (rest : Option Seen) → l < d → is_of d rest ≡ false → is_of d (seen_first o l rest) ≡ false
above_first None l d rest h e = e
above_first (Some x) l d rest h e = apart_numbers l d h

-- no name is seen in a scope that isn't entered
above : (scopes : List Scope) (name : List ℕ) (d : ℕ) → length scopes < d → is_of d (seen scopes name) ≡ false
above [] name d h = refl
above (scope ∷ outer) name d h = above_first (in_scope scope name) _ d (seen outer name) h (above outer name d (omega arith))

here_first : (o : Option Sym) (l : ℕ) (rest : Option Seen) → is_of l rest ≡ false → is_of l (seen_first o l rest) ≡ is_some o
here_first None l rest e = e
here_first (Some x) l rest e = same_number l

-- a name is seen in the innermost scope exactly where that has it
pub here : (scopes : List Scope) (name : List ℕ) → is_of (length scopes) (seen scopes name) ≡ is_some (in_scope (first_scope scopes) name)
here [] name = refl
here (scope ∷ outer) name = here_first (in_scope scope name) (length (scope ∷ outer)) (seen outer name) (above outer name (length (scope ∷ outer)) (omega arith))

added_first : (b : Bool) (it : Sym) (o : Option Sym) (l : ℕ) (rest : Option Seen) → seen_first (cond b (Some it) o) l rest ≡ cond b (Some (record { sym = it; depth = l })) (seen_first o l rest)
added_first true it o l rest = refl
added_first false it o l rest = refl

seen_added : (name : List ℕ) (it : Sym) (scopes : List Scope) (q : List ℕ) → 1 ≤ length scopes
    → seen (with_name name it scopes) q ≡ update bytes_eq (seen scopes) name (Some (record { sym = it; depth = length scopes })) q
seen_added name it [] q h = absurd (omega arith)
seen_added name it (scope ∷ outer) q h = added_first (bytes_eq name q) it (in_scope scope q) (length (scope ∷ outer)) (seen outer q)

length_added : (name : List ℕ) (it : Sym) (scopes : List Scope) → length (with_name name it scopes) ≡ length scopes
length_added name it [] = refl
length_added name it (scope ∷ outer) = refl

pub outer_added : (name : List ℕ) (it : Sym) (scopes : List Scope) → outer_scopes (with_name name it scopes) ≡ outer_scopes scopes
outer_added name it [] = refl
outer_added name it (scope ∷ outer) = refl

-- a scope is entered
pub kept_entered : (names : BTreeMap (Vec ℕ Global) Seen) (steps : List Step) (depth : ℕ) → IsKept names steps depth → IsKept names (Entered ∷ steps) (depth + 1)
kept_entered names steps depth k = record {
  steps_are = k.steps_are;
  names_are = k.names_are;
  depth_is = omega (arith, k.depth_is);
}

-- a scope without names is left
pub kept_left : (names : BTreeMap (Vec ℕ Global) Seen) (steps : List Step) (depth : ℕ) → IsKept names (Entered ∷ steps) depth → IsKept names steps (depth - 1)
kept_left names steps depth k = record {
  steps_are = k.steps_are;
  names_are = k.names_are;
  depth_is = omega (arith, k.depth_is);
}

-- a name is added
pub kept_added : (old new : BTreeMap (Vec ℕ Global) Seen) (steps : List Step) (depth : ℕ) (own : Vec ℕ Global) (it : Sym) (hidden : Option Seen)
    → IsKept old steps depth → 1 ≤ depth → hidden ≡ held old own.items
    → ((q : List ℕ) → held new q ≡ update bytes_eq (held old) own.items (Some (record { sym = it; depth = depth })) q)
    → IsKept new (Added own it hidden ∷ steps) depth
kept_added old new steps depth own it hidden k some is e =
    let scopes = scopes_of steps in
    let within : 1 ≤ length scopes = omega (arith, k.depth_is) in
    record {
      steps_are = (record { within = within; noted = is ∙ k.names_are own.items }, k.steps_are);
      names_are = λ q. e q
          ∙ (ap (λ o. cond (bytes_eq own.items q) (Some (record { sym = it; depth = depth })) o) (k.names_are q)
          ∙ (ap (λ d. cond (bytes_eq own.items q) (Some (record { sym = it; depth = d })) (seen scopes q)) k.depth_is
          ∙ sym (seen_added own.items it scopes q within)));
      depth_is = k.depth_is ∙ sym (length_added own.items it scopes);
    }

undone : (b : Bool) (hidden one before : Option Seen) → (b ≡ true → hidden ≡ before) → cond b hidden (cond b one before) ≡ before
undone true hidden one before e = e refl
undone false hidden one before e = refl

-- the newest name is taken back
pub kept_restored : (old new : BTreeMap (Vec ℕ Global) Seen) (steps : List Step) (depth : ℕ) (own : Vec ℕ Global) (it : Sym) (hidden : Option Seen)
    → IsKept old (Added own it hidden ∷ steps) depth
    → ((q : List ℕ) → held new q ≡ update bytes_eq (held old) own.items hidden q)
    → IsKept new steps depth
kept_restored old new steps depth own it hidden k e =
    let scopes = scopes_of steps in
    let added = k.steps_are.0 in
    record {
      steps_are = k.steps_are.1;
      names_are = λ q. e q
          ∙ (ap (λ o. cond (bytes_eq own.items q) hidden o) (k.names_are q ∙ seen_added own.items it scopes q added.within)
          ∙ undone (bytes_eq own.items q) hidden _ (seen scopes q) (λ y. added.noted ∙ ap (seen scopes) ((bytes_decides own.items q).0 y)));
      depth_is = k.depth_is ∙ length_added own.items it scopes;
    }

same_bytes : (bytes : List ℕ) → bytes_eq bytes bytes ≡ true
same_bytes bytes = (bytes_decides bytes bytes).1 refl

some_first : (b : Bool) (one : Seen) (before : Option Seen) → b ≡ true → IsSome (cond b (Some one) before)
some_first true one before e = search rules
some_first false one before e = absurd (cc)

-- the newest name stands for something
pub newest_held : (names : BTreeMap (Vec ℕ Global) Seen) (steps : List Step) (depth : ℕ) (own : Vec ℕ Global) (it : Sym) (hidden : Option Seen)
    → IsKept names (Added own it hidden ∷ steps) depth → IsSome (held names own.items)
newest_held names steps depth own it hidden k =
    rw (k.names_are own.items, seen_added own.items it (scopes_of steps) own.items k.steps_are.0.within) (some_first (bytes_eq own.items own.items) _ _ (same_bytes own.items))

length_piled : (steps below : List Step) → length (piled steps below) ≡ length steps + length below
length_piled [] below = omega arith
length_piled (first ∷ rest) below = let e = length_piled rest (first ∷ below) in omega (arith, e)

length_scopes : (steps : List Step) → length (scopes_of steps) ≤ length steps
length_scopes [] = omega arith
length_scopes (Entered ∷ before) = let h = length_scopes before in omega arith
length_scopes (Added own it hidden ∷ before) = let h = length_scopes before in let e = length_added own.items it (scopes_of before) in omega arith

-- no more scopes are entered than steps were made
pub depth_low : (names : BTreeMap (Vec ℕ Global) Seen) (steps : List Step) (depth : ℕ) → IsKept names (pile_of steps) depth → depth ≤ length steps
depth_low names steps depth k =
    let a = length_scopes (pile_of steps) in
    let b : length (pile_of steps) ≡ length steps + 0 = length_piled steps [] in
    let c = k.depth_is in
    omega arith

-- what a table has for a name is what the name stands for
pub found : (names : BTreeMap (Vec ℕ Global) Seen) (steps : List Step) (depth : ℕ) → IsKept names steps depth
    → (q : List ℕ) → option_map (λ s. s.sym) (held names q) ≡ innermost (scopes_of steps) q
found names steps depth k q = ap (option_map (λ s. s.sym)) (k.names_are q) ∙ sym (innermost_seen (scopes_of steps) q)

-- and it tells whether the innermost scope has the name
pub has_name : (names : BTreeMap (Vec ℕ Global) Seen) (steps : List Step) (depth : ℕ) → IsKept names steps depth
    → (q : List ℕ) → is_of depth (held names q) ≡ is_some (in_scope (first_scope (scopes_of steps)) q)
has_name names steps depth k q =
    ap (is_of depth) (k.names_are q)
    ∙ (ap (λ d. is_of d (seen (scopes_of steps) q)) k.depth_is
    ∙ here (scopes_of steps) q)

-- How scopes are kept: what each name stands for now, and the steps that led there.
use Rattle.std.specs.Prelude.{◌≡◌, ℕ, ◌≤◌, Bool, false, ◌==◌, Option, None, Some, List, [], ◌∷◌, length, Vec}
use Rattle.std.specs.declared.alloc.Global.{Global}
use Rattle.std.specs.Ordering.{nat_cmp}
use Rattle.std.specs.Cmp.Lexicographic.{slice_cmp}
use Rattle.std.specs.BTreeMap.{BTreeMap, get_by}
use Rattle.name_scope.specs.declared.sym.Sym.{Sym}
use Rattle.name_scope.specs.declared.names.Seen.{Seen}
use Rattle.name_scope.specs.declared.scopes.Step.{Step}
use Rattle.name_scope.specs.declared.scopes.Step.TheVariants.{Entered, Added}
use Rattle.name_scope.specs.Scopes.{Scope, in_scope, with_name}

-- what a table of names has for a name
abbrev pub held : BTreeMap (Vec ℕ Global) Seen → List ℕ → Option Seen
held names name = get_by (λ key. slice_cmp nat_cmp name key.items) names

-- what the innermost scope has, and else what the others have
abbrev pub seen_first : Option Sym → ℕ → Option Seen → Option Seen
seen_first None depth other = other
seen_first (Some sym) depth other = Some (record { sym = sym; depth = depth })

-- what a name stands for, and in which scope, by the number of scopes that were entered with it
abbrev pub seen : List Scope → List ℕ → Option Seen
seen [] name = None
seen (scope ∷ outer) name = seen_first (in_scope scope name) (length (scope ∷ outer)) (seen outer name)

-- whether it stands in the scope of this number
abbrev pub is_of : ℕ → Option Seen → Bool
is_of depth None = false
is_of depth (Some one) = one.depth == depth

-- steps upon steps
abbrev pub piled : List Step → List Step → List Step
piled [] below = below
piled (first ∷ rest) below = piled rest (first ∷ below)

-- the steps, the last one first
abbrev pub pile_of : List Step → List Step
pile_of steps = piled steps []

-- the scopes that steps led to
abbrev pub scopes_of : List Step → List Scope
scopes_of [] = []
scopes_of (Entered ∷ before) = [] ∷ scopes_of before
scopes_of (Added name sym hidden ∷ before) = with_name name.items sym (scopes_of before)

-- a name was added within a scope, and what it hid is noted
pub record IsAdded (name : List ℕ) (hidden : Option Seen) (scopes : List Scope) : Type 0 where
  pub within : 1 ≤ length scopes
  pub noted : hidden ≡ seen scopes name

-- each step is what its place among the steps says
abbrev pub AreSteps : List Step → Type 0
AreSteps [] = Unit {0}
AreSteps (Entered ∷ before) = AreSteps before
AreSteps (Added name sym hidden ∷ before) = IsAdded name.items hidden (scopes_of before) × AreSteps before

-- the table of names is that of the scopes to which the steps led, and their number is known
pub record IsKept (names : BTreeMap (Vec ℕ Global) Seen) (steps : List Step) (depth : ℕ) : Type 0 where
  pub steps_are : AreSteps steps
  pub names_are : (name : List ℕ) → held names name ≡ seen (scopes_of steps) name
  pub depth_is : depth ≡ length (scopes_of steps)

-- Names in scopes. A name is its bytes, in lower case.
use Rattle.std.specs.Prelude.{ℕ, Option, None, Some, List, [], ◌∷◌}
use Rattle.std.specs.Str.{bytes_eq}
use Rattle.std.specs.Map.{lookup}
use Rattle.name_scope.specs.declared.sym.Sym.{Sym}

-- the names of one scope and what they stand for, the newest first
abbrev pub Scope : Type 0
Scope = List (List ℕ × Sym)

-- what a name stands for in one scope, if the scope has it
abbrev pub in_scope : Scope → List ℕ → Option Sym
in_scope scope name = lookup (λ held. bytes_eq held name) scope

-- the first of two
abbrev pub or_else : Option Sym → Option Sym → Option Sym
or_else None other = other
or_else (Some sym) other = Some sym

-- the scopes that are entered, the innermost first: what a name stands for in the innermost that has it
abbrev pub innermost : List Scope → List ℕ → Option Sym
innermost [] name = None
innermost (scope ∷ outer) name = or_else (in_scope scope name) (innermost outer name)

-- the innermost scope of all
abbrev pub first_scope : List Scope → Scope
first_scope [] = []
first_scope (scope ∷ outer) = scope

-- the scopes around it
abbrev pub outer_scopes : List Scope → List Scope
outer_scopes [] = []
outer_scopes (scope ∷ outer) = outer

-- with one name more in the innermost scope
abbrev pub with_name : List ℕ → Sym → List Scope → List Scope
with_name name sym [] = []
with_name name sym (scope ∷ outer) = ((name, sym) ∷ scope) ∷ outer

-- What a client sees of a type environment.
use Rattle.std.specs.Prelude.{ℕ, Bool, nat_eq, List, map, Option, option_map, option_and_then, string_bytes}
use Rattle.std.specs.HashMap.{get_by_text}
use Rattle.core_syntax.specs.Stable.{look_up}
use Rattle.core_types.specs.declared.ids.Sym.{Sym}
use Rattle.core_types.specs.declared.type_env.TypeEnv.{TypeEnv}
use Rattle.model.specs.lists.Names.{AreNumbersOf}

-- the names, in the order of their numbers
abbrev pub names_of : TypeEnv → List (List ℕ)
names_of env = map string_bytes env.syms.items

-- the number that is looked up for a text
abbrev pub symbol_of : TypeEnv → List ℕ → Option ℕ
symbol_of env q = option_map (λ s. s.0) (get_by_text env.sym_map q)

abbrev pub same_symbol : Sym → Sym → Bool
same_symbol a b = nat_eq a.0 b.0

abbrev pub symbol : ℕ → Sym
symbol n = record { 0 = n }

-- the type of the name of a number
abbrev pub type_at : TypeEnv → ℕ → Option ℕ
type_at env n = option_map (λ t. t.0) (look_up same_symbol env.type_map (symbol n))

-- the type of the constant that has the name of a number
abbrev pub constant_at : TypeEnv → ℕ → Option ℕ
constant_at env n = option_map (λ t. t.0) (look_up same_symbol env.const_types (symbol n))

-- the type of a text, where it is a type's name
abbrev pub type_of_name : TypeEnv → List ℕ → Option ℕ
type_of_name env x = option_and_then (type_at env) (symbol_of env x)

-- no name stands twice, and each is looked up at its place
abbrev pub IsInterned : TypeEnv → Type 0
IsInterned env = AreNumbersOf (names_of env) (symbol_of env)

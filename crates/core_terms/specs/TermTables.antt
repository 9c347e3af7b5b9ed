-- What is looked up in a term table.
use Rattle.std.specs.Prelude.{ℕ, Bool, ◌&&◌, nat_eq, Option, option_map}
use Rattle.core_syntax.specs.Stable.{look_up}
use Rattle.core_types.specs.declared.ids.TypeId.{TypeId}
use Rattle.core_types.specs.Envs.{same_symbol, symbol}
use Rattle.core_terms.specs.declared.term_table.TermTable.{TermTable}

-- the term of the name of a number
abbrev pub term_at : TermTable → ℕ → Option ℕ
term_at table k = option_map (λ t. t.0) (look_up same_symbol table.term_map (symbol k))

abbrev pub same_types : TypeId × TypeId → TypeId × TypeId → Bool
same_types a b = nat_eq a.0.0 b.0.0 && nat_eq a.1.0 b.1.0

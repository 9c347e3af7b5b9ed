-- Maps from names to types.
use Rattle.std.proofs.Common.{◌≡◌, ℕ, cond, nat_eq, Some, option_map, arith}
use Rattle.std.proofs.lemmas.Grind.{common_steps}
use Rattle.core_syntax.specs.Stable.{Entries, look_up}
use Rattle.core_types.specs.declared.ids.Sym.{Sym}
use Rattle.core_types.specs.declared.ids.TypeId.{TypeId}
use Rattle.core_types.specs.Envs.{same_symbol, symbol}

pub read_ids : (old new : Entries Sym TypeId) (s : Sym) (id : TypeId) → ((x : Sym) → look_up same_symbol new x ≡ cond (same_symbol s x) (Some id) (look_up same_symbol old x)) → (k : ℕ) → option_map (λ t. t.0) (look_up same_symbol new (symbol k)) ≡ cond (nat_eq s.0 k) (Some id.0) (option_map (λ t. t.0) (look_up same_symbol old (symbol k)))
read_ids old new s id has k = grind (arith, common_steps)

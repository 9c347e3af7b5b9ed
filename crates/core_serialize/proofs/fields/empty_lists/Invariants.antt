use Rattle.std.proofs.Common.{◌≡◌, ℕ, [], length}
use Rattle.core_serialize.specs.FieldTests.{list_at}
use Rattle.core_serialize.proofs.fields.empty_lists.Given as goal

abbrev pub invariant-loop : goal.invariant-loop
invariant-loop l = record { count : length l.lists.items ≡ l.counter; empty : (s : ℕ) → list_at l.lists.items s ≡ [] }

use Rattle.std.proofs.Common.{rules, sym}
use Rattle.std.proofs.lemmas.List.Sorted.{answers_always}
use Rattle.core_typed.proofs.BoundPlaces.{past_last, searched}
use Rattle.core_typed.proofs.bound_ids.place_of.Goals as goal

pub returns-in-Some : goal.returns-in-Some
returns-in-Some g c =
    searched c.args.entries.now c.args.var.0 c.binary_search_by_key.result c.requires c.binary_search_by_key.ensures.bound
    (c.binary_search_by_key.ensures.position (λ entry. entry.0) (answers_always _ _ _ (λ f a r h called. search rules)))

pub returns-in_default : goal.returns-in_default
returns-in_default g c = past_last c.args.entries.now c.args.var.0 c.in-Some.last.now c.requires (sym c.in-Some.ensures.value) c.if-le.ensures

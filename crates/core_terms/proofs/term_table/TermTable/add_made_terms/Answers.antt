use Rattle.std.proofs.Common.{◌≡◌, ◌≤◌, get_or, length, refl, subst, inl, rules}
use Rattle.std.proofs.lemmas.List.{take_all}
use Rattle.core_syntax.proofs.Positioned.{notes_nothing}
use Rattle.core_types.specs.TypeViews.{type_views}
use Rattle.core_types.specs.TypePositions.{types_positions}
use Rattle.core_terms.specs.Signing.{AddsAllMade}
use Rattle.core_terms.proofs.Breaches.{begins_noted}
use Rattle.core_terms.proofs.NotedPositions.{placed_same, type_noted, type_placed}
use Rattle.core_terms.proofs.Making.{grows_nothing, next_made}
use Rattle.core_terms.proofs.term_table.TermTable.add_made_terms.Goals as goal

pub loop-ty-preserved : goal.loop-ty-preserved
loop-ty-preserved c =
    let at = subst (λ ts. c.ty-item.result ≡ get_or ts c.loop-ty.ty-index c.ty-item.result) c.deref-ty-items.ensures.value c.ty-item.is in (
      c.in_ok-add_terms_of.ensures.within,
      next_made c.args.tyenv.now.types.items c.loop-ty.ty-index c.ty-item.result (search rules) at _ _ _ _ _ _ c.in_ok-add_terms_of.ensures.adds (begins_noted _ _ _ c.in_ok-add_terms_of.ensures.places) c.loop-ty.invariant.1,
      type_noted c.args.tyenv.now.types.items c.loop-ty.ty-index c.ty-item.result (search rules) at _ _ _ c.in_ok-add_terms_of.ensures.places c.loop-ty.invariant.2,
      type_placed c.args.tyenv.now.types.items c.loop-ty.ty-index c.ty-item.result (search rules) at _ _ _ c.in_ok-add_terms_of.ensures.placed c.loop-ty.invariant.3,
    )

pub returns-clause-adds : goal.returns-clause-adds
returns-clause-adds c =
    let end : length c.args.tyenv.now.types.items ≤ c.loop-ty.ty-index = search rules in
    subst (λ l. AddsAllMade (type_views l) c.args.self.now c.args.errors.now.items c.loop-ty.self c.loop-ty.errors.items) (take_all c.loop-ty.ty-index c.args.tyenv.now.types.items end) c.loop-ty.invariant.1

pub loop-ty-init : goal.loop-ty-init
loop-ty-init c = (c.requires, inl (refl, grows_nothing c.args.self.now), notes_nothing _ _ _ refl, placed_same c.args.self.now c.args.self.now (types_positions (type_views c.args.tyenv.now.types.items)) refl)

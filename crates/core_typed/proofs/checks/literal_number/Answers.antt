use Rattle.std.proofs.Common.{rules, ◌≡◌, ◌∙◌, Some, None, option_map, slice_get, sym, ap}
use mir.Syntax.{w128}
use mir.Val.{SFits}
use Rattle.std.proofs.lemmas.Int.{to_z-of_z}
use Rattle.std.proofs.lemmas.Option.{slice_get-get_or, slice_get-map, slice_get_past}
use Rattle.model.specs.lists.Ranges.{reduced}
use Rattle.core_types.specs.TypeViews.{type_view, type_views}
use Rattle.core_typed.proofs.checks.literal_number.Goals as goal

pub returns-in-Some : goal.returns-in-Some
returns-in-Some c =
    let types = c.args.tyenv.now.types.items in
    let found = c.in-Some.ensures.lookup in
    let fits : SFits w128 c.number_at.result = search rules in
    let at : slice_get types c.index.result ≡ Some c.in-Some.known.now =
    ap (λ l. slice_get l c.index.result) (sym c.deref.ensures.value) ∙ slice_get-get_or c.deref.result.now c.index.result c.in-Some.known.now found.3.0 ∙ ap Some (sym found.1) in
    let there : slice_get (type_views types) c.args.ty.0 ≡ Some (type_view c.in-Some.known.now) =
    slice_get-map type_view types c.args.ty.0 ∙ ap (option_map type_view) (ap (slice_get types) (sym c.index.ensures) ∙ at) in
    let stands : c.number_at.result ≡ reduced (Some (type_view c.in-Some.known.now)) c.args.val =
    rw (to_z-of_z w128 c.args.val c.ranges.val) at c.number_at.ensures in
    to_z-of_z w128 c.number_at.result fits ∙ stands ∙ ap (λ t. reduced t c.args.val) (sym there)

pub returns-in-None : goal.returns-in-None
returns-in-None c =
    let types = c.args.tyenv.now.types.items in
    let at : slice_get types c.index.result ≡ None =
    ap (λ l. slice_get l c.index.result) (sym c.deref.ensures.value) ∙ slice_get_past c.deref.result.now c.index.result c.in-None.ensures.lookup.3 in
    let there : slice_get (type_views types) c.args.ty.0 ≡ None =
    slice_get-map type_view types c.args.ty.0 ∙ ap (option_map type_view) (ap (slice_get types) (sym c.index.ensures) ∙ at) in
    to_z-of_z w128 c.args.val c.ranges.val ∙ ap (λ t. reduced t c.args.val) (sym there)

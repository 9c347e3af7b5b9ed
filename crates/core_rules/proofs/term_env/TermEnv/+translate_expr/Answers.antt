use Rattle.std.proofs.Common.{◌≡◌, suc, ◌+◌, ◌<◌, ◌≤◌, List, [], ◌∷◌, length, get_or, refl, sym, ap, ◌∙◌, Some, rules, arith, min, map, Ok, option_map}
use Rattle.std.proofs.lemmas.Int.{to_z-of_z}
use mir.Val.{SFits}
use mir.Syntax.{w128}
use Rattle.core_syntax.specs.SyntaxViews as S
use Rattle.model.specs.lists.Syntax.{Position, term_expr, let_expr, no_let}
use Rattle.core_terms.specs.TermViews.{flags_view, term_view}
use Rattle.core_types.specs.declared.ids.TypeId.{TypeId}
use Rattle.core_rules.specs.ExprReadings.{expected}
use Rattle.core_typed.specs.ExprViews.{expr_view, let_views, let_parts}
use Rattle.core_rules.specs.ShownSettings.{standing}
use Rattle.core_typed.proofs.Defaults.{same_default}
use Rattle.core_typed.proofs.ExprBridges.{row_exprs-hidden}
use Rattle.core_rules.proofs.ExprSizes.{expr_size, exprs_size, lets_size, less, inside_less, smaller_arg, smaller_def}
use Rattle.core_rules.proofs.ExprForms.{seen_call, seen_let}
use Rattle.core_rules.proofs.Readings.{stop_is, keep_none, keep_on}
use Rattle.core_syntax.specs.Positions.{OccurAmong, expr_positions, exprs_positions, lets_positions}
use Rattle.core_syntax.proofs.Positioned.{among_same, among_first, notes_among, notes_nothing, among_under, notes_parts}
use Rattle.core_rules.specs.Lets.{with_let}
use Rattle.core_rules.proofs.ErrorPositions.{stays_among, stays_step, stop_among, stop_step}
use Rattle.core_rules.proofs.PartPlaces.{call_inside, defs_inside, body_inside, arg_inside, def_inside, value_inside}
use Rattle.core_rules.specs.LetTaking.{lets_steps}
use Rattle.core_rules.proofs.LetsTaken.{unknown_def, unknown_hides, value_stops, def_not_made, def_not_hidden, def_taken, def_hides, none_defined, one_defined, def_stops_all, all_defined, all_hidden, defs_from, def_first, defs_read, let_stops_first, body_stops, let_not_made, let_taken}
use Rattle.model.specs.rules.Typed.{make_term}
use Rattle.core_typed.specs.ExprViews.{expr_views, expr_parts}
use Rattle.core_rules.specs.ExprTaking.{expr_steps, args_steps}
use Rattle.core_rules.specs.PatternTaking.{made_end}
use Rattle.core_rules.proofs.ExprListsTaken.{args_from, none_read, all_read, arg_goes_on, arg_stops_all, args_read}
use Rattle.core_rules.proofs.Taken.{expansion_done, rest_ends, rest_stops}
use Rattle.core_rules.proofs.term_env.TermEnv.+translate_expr.Goals as goal

pub translate_expr-use_in_expr-requires-clause-whole : goal.translate_expr-use_in_expr-requires-clause-whole
translate_expr-use_in_expr-requires-clause-whole t c = seen_call c.args.expr.now c.in-Term.sym c.in-Term.args c.in-Term.pos c.deref.result.now c.in-Term.is c.deref.ensures.value

pub translate_expr-translate_expr-requires : goal.translate_expr-translate_expr-requires
translate_expr-translate_expr-requires t c =
    let u = rw c.in-Conversion.is at c.in_ok-use_in_expr-in-Term.ensures.deeper in
    let h = inside_less c.args.nesting c.in-Conversion.left (S.expr_view c.args.expr.now) (S.expr_view c.in-Conversion.inside) u.1 u.2 u.0 u.3 in
    (omega (arith, c.decreases, h), c.requires)

pub translate_expr-translate_exprs-requires : goal.translate_expr-translate_exprs-requires
translate_expr-translate_exprs-requires t c =
    let size = ap expr_size (seen_call c.args.expr.now c.in-Term.sym c.in-Term.args c.in-Term.pos c.deref-in-Parts.result.now c.in-Term.is c.deref-in-Parts.ensures.value) in
    let h = less c.args.nesting (exprs_size (S.expr_views c.deref-in-Parts.result.now)) (expr_size (S.expr_view c.args.expr.now)) (omega (arith, size)) in
    (omega (arith, c.decreases, h), c.requires)

pub translate_expr-translate_expr-requires-in-Conversion-2 : goal.translate_expr-translate_expr-requires-in-Conversion-2
translate_expr-translate_expr-requires-in-Conversion-2 t c =
    let u = rw c.in-Conversion-2.is at c.in_ok-use_var-in-Var.ensures.deeper in
    let h = inside_less c.args.nesting c.in-Conversion-2.left (S.expr_view c.args.expr.now) (S.expr_view c.in-Conversion-2.inside) u.1 u.2 u.0 u.3 in
    (omega (arith, c.decreases, h), c.requires)

pub translate_expr-translate_let-requires : goal.translate_expr-translate_let-requires
translate_expr-translate_let-requires t c =
    let size = ap expr_size (seen_let c.args.expr.now c.in-Let.defs c.in-Let.body c.in-Let.pos c.deref-in-Let.result.now c.deref-in-Let-2.result.now c.in-Let.is c.deref-in-Let.ensures.value c.deref-in-Let-2.ensures) in
    let h = less c.args.nesting (suc (lets_size (S.let_views c.deref-in-Let.result.now) + expr_size (S.expr_view c.deref-in-Let-2.result.now))) (expr_size (S.expr_view c.args.expr.now)) (omega (arith, size)) in
    (omega (arith, c.decreases, h), c.requires)

pub translate_exprs-translate_expr-requires : goal.translate_exprs-translate_expr-requires
translate_exprs-translate_expr-requires t c =
    let w : c.loop-i.i < length c.args.args.now = search rules in
    let part = smaller_arg c.args.args.now c.loop-i.i c.index-args-i.result w in
    let same = ap (λ p. expr_size (S.expr_view p)) c.index-args-i.is in
    let h = less c.args.nesting (expr_size (S.expr_view c.index-args-i.result)) (exprs_size (S.expr_views c.args.args.now)) (omega (arith, part, same)) in
    (omega (arith, c.decreases, h), c.loop-i.invariant.0.inverse)

pub translate_exprs-loop-i-init : goal.translate_exprs-loop-i-init
translate_exprs-loop-i-init t c = (
  keep_none c.args.tyenv.now c.requires,
  notes_nothing _ _ _ refl,
  none_read c.args.self.now (standing c.args.tyenv.now c.args.work.now) (args_steps (S.expr_views c.args.args.now) (flags_view c.args.flags) (map (λ t. t.0) c.args.tys.now) c.args.nesting) c.in_ok-parts.parts.items c.in_ok-parts.ensures.items,
)

pub translate_exprs-loop-i-preserved : goal.translate_exprs-loop-i-preserved
translate_exprs-loop-i-preserved t c =
    let w : c.loop-i.i < length c.args.args.now = search rules in
    let v : c.loop-i.i < length c.args.tys.now = search rules in
    let ty : TypeId = get_or c.args.tys.now c.loop-i.i (record { 0 = 0 }) in
    let pushed = c.in_ok-push_expr.ensures in (
      keep_on c.args.tyenv.now c.loop-i.tyenv c.translate_expr.new.tyenv c.loop-i.invariant.0 c.translate_expr.ensures.keeps,
      (
          let whole = exprs_positions (S.expr_views c.args.args.now) in
          let part = expr_positions (S.expr_view c.index-args-i.result) in
          notes_parts whole part whole c.args.work.now.errors.items c.loop-i.work.errors.items c.translate_expr.new.work.errors.items
          (among_same whole) (arg_inside c.args.args.now c.loop-i.i c.index-args-i.result w c.index-args-i.is) c.loop-i.invariant.1 c.in_ok-part.ensures.places
          ),
      rw pushed
          (arg_goes_on (flags_view c.args.flags) c.args.args.now c.args.tys.now c.args.nesting c.loop-i.i c.index-args-i.result w c.index-args-i.is ty v (same_default c.args.tys.now c.loop-i.i (record { 0 = 0 }) ty v)
          c.args.self.now (standing c.args.tyenv.now c.args.work.now) (standing c.loop-i.tyenv c.loop-i.work) (standing c.translate_expr.new.tyenv c.translate_expr.new.work) c.loop-i.invariant.0
          (args_steps (S.expr_views c.args.args.now) (flags_view c.args.flags) (map (λ t. t.0) c.args.tys.now) c.args.nesting) c.loop-i.parts.items c.loop-i.invariant.2 c.in_ok-part.part c.in_ok-part.ensures.reads),
    )

pub translate_let-translate_defs-requires : goal.translate_let-translate_defs-requires
translate_let-translate_defs-requires t c =
    let h = less c.args.nesting (lets_size (S.let_views c.args.defs.now)) (suc (lets_size (S.let_views c.args.defs.now) + expr_size (S.expr_view c.args.body.now))) (omega arith) in
    (omega (arith, c.decreases, h), c.requires)

pub translate_let-translate_expr-requires : goal.translate_let-translate_expr-requires
translate_let-translate_expr-requires t c =
    let h = less c.args.nesting (expr_size (S.expr_view c.args.body.now)) (suc (lets_size (S.let_views c.args.defs.now) + expr_size (S.expr_view c.args.body.now))) (omega arith) in
    (omega (arith, c.decreases, h), c.translate_defs.ensures.keeps.inverse)

pub translate_defs-loop-def-init : goal.translate_defs-loop-def-init
translate_defs-loop-def-init t c = (
  keep_none c.args.tyenv.now c.requires,
  notes_nothing _ _ _ refl,
  none_defined c.args.self.now (standing c.args.tyenv.now c.args.work.now) (lets_steps (S.let_views c.args.defs.now) (flags_view c.args.flags) (S.position c.args.pos) c.args.nesting) c.in_ok-bindings.bindings.items c.args.hidden.now.items c.in_ok-bindings.ensures.items,
)

pub translate_defs-translate_def-requires : goal.translate_defs-translate_def-requires
translate_defs-translate_def-requires t c =
    let part = smaller_def c.args.defs.now c.loop-def.def-index c.def-item.result c.loop-def-test.true in
    let same = ap (λ d. expr_size (S.expr_view d.val.value)) c.def-item.is in
    let h = less c.args.nesting (suc (expr_size (S.expr_view c.def-item.result.val.value))) (lets_size (S.let_views c.args.defs.now)) (omega (arith, part, same)) in
    (omega (arith, c.decreases, h), c.loop-def.invariant.0.inverse)

pub translate_defs-loop-def-preserved : goal.translate_defs-loop-def-preserved
translate_defs-loop-def-preserved t c =
    let pushed = c.in_ok-push_def.ensures in (
      keep_on c.args.tyenv.now c.loop-def.tyenv c.translate_def.new.tyenv c.loop-def.invariant.0 c.translate_def.ensures.keeps,
      (
          let at = S.position c.args.pos in
          let whole = at ∷ lets_positions (S.let_views c.args.defs.now) in
          let one = lets_positions (with_let c.def-item.result no_let) in
          let inside : OccurAmong (at ∷ one) whole = among_under at one (lets_positions (S.let_views c.args.defs.now)) (def_inside c.args.defs.now c.loop-def.def-index c.def-item.result c.loop-def-test.true c.def-item.is) in
          notes_parts whole (at ∷ one) whole c.args.work.now.errors.items c.loop-def.work.errors.items c.translate_def.new.work.errors.items (among_same whole) inside c.loop-def.invariant.1 c.in_ok-made.ensures.places
          ),
      rw pushed
          (one_defined c.args.self.now (standing c.args.tyenv.now c.args.work.now) (standing c.loop-def.tyenv c.loop-def.work) (lets_steps (S.let_views c.args.defs.now) (flags_view c.args.flags) (S.position c.args.pos) c.args.nesting)
          (defs_from c.args.defs.now (flags_view c.args.flags) (S.position c.args.pos) c.args.nesting c.loop-def.def-index) c.loop-def.bindings.items c.args.hidden.now.items c.loop-def.hidden.items c.loop-def.invariant.2
          (S.name_view c.def-item.result.var) (S.name_view c.def-item.result.ty) (S.expr_view c.def-item.result.val.value) (flags_view c.args.flags) (S.position c.args.pos) c.args.nesting
          (defs_from c.args.defs.now (flags_view c.args.flags) (S.position c.args.pos) c.args.nesting (c.loop-def.def-index + 1)) (standing c.translate_def.new.tyenv c.translate_def.new.work) c.loop-def.invariant.0
          (def_first c.args.defs.now (flags_view c.args.flags) (S.position c.args.pos) c.args.nesting c.loop-def.def-index c.def-item.result c.loop-def-test.true c.def-item.is)
          c.in_ok-made.made c.translate_def.new.hidden.items c.in_ok-made.ensures.reads c.in_ok-made.ensures.hides),
    )

pub translate_def-translate_expr-requires : goal.translate_def-translate_expr-requires
translate_def-translate_expr-requires t c =
    let same = ap (λ x. expr_size (S.expr_view x)) c.deref.ensures in
    let h = less c.args.nesting (expr_size (S.expr_view c.deref.result.now)) (suc (expr_size (S.expr_view c.args.def.now.val.value))) (omega (arith, same)) in
    (omega (arith, c.decreases, h), c.begin_def.ensures.keeps.inverse)

pub translate_exprs-returns-in_err-part-clause-places : goal.translate_exprs-returns-in_err-part-clause-places
translate_exprs-returns-in_err-part-clause-places t c =
    let w : c.loop-i.i < length c.args.args.now = search rules in
    let whole = exprs_positions (S.expr_views c.args.args.now) in
    let part = expr_positions (S.expr_view c.index-args-i.result) in
    rw (stop_is c.from_residual-in_err-part.result c.in_err-part.field-0.0 c.from_residual-in_err-part.ensures)
    (stop_step whole part whole c.args.work.now.errors.items c.loop-i.work.errors.items c.translate_expr.new.work.errors.items c.in_err-part.field-0.0
    (among_same whole) (arg_inside c.args.args.now c.loop-i.i c.index-args-i.result w c.index-args-i.is) c.loop-i.invariant.1 c.in_err-part.ensures.places)

pub translate_exprs-returns-clause-places : goal.translate_exprs-returns-clause-places
translate_exprs-returns-clause-places t c =
    c.loop-i.invariant.1

pub translate_defs-returns-in_err-made-clause-places : goal.translate_defs-returns-in_err-made-clause-places
translate_defs-returns-in_err-made-clause-places t c =
    let at = S.position c.args.pos in
    let whole = at ∷ lets_positions (S.let_views c.args.defs.now) in
    let one = lets_positions (with_let c.def-item.result no_let) in
    let inside : OccurAmong (at ∷ one) whole = among_under at one (lets_positions (S.let_views c.args.defs.now)) (def_inside c.args.defs.now c.loop-def.def-index c.def-item.result c.loop-def-test.true c.def-item.is) in
    rw (stop_is c.from_residual-in_err-made.result c.in_err-made.field-0.0 c.from_residual-in_err-made.ensures)
    (stop_step whole (at ∷ one) whole c.args.work.now.errors.items c.loop-def.work.errors.items c.translate_def.new.work.errors.items c.in_err-made.field-0.0 (among_same whole) inside c.loop-def.invariant.1 c.in_err-made.ensures.places)

pub translate_defs-returns-clause-places : goal.translate_defs-returns-clause-places
translate_defs-returns-clause-places t c =
    c.loop-def.invariant.1

pub translate_def-returns-in_default-clause-places : goal.translate_def-returns-in_default-clause-places
translate_def-returns-in_default-clause-places t c =
    let at = S.position c.args.pos in
    let whole = at ∷ lets_positions (with_let c.args.def.now no_let) in
    let value = expr_positions (S.expr_view c.args.def.now.val.value) in
    let here : OccurAmong (at ∷ []) whole = among_first at (lets_positions (with_let c.args.def.now no_let)) in
    notes_among (at ∷ []) whole c.args.work.now.errors.items c.begin_def.new.errors.items here c.in_ok-name.ensures.places

pub translate_def-returns-in_err-made-clause-places : goal.translate_def-returns-in_err-made-clause-places
translate_def-returns-in_err-made-clause-places t c =
    let at = S.position c.args.pos in
    let whole = at ∷ lets_positions (with_let c.args.def.now no_let) in
    let value = expr_positions (S.expr_view c.args.def.now.val.value) in
    let here : OccurAmong (at ∷ []) whole = among_first at (lets_positions (with_let c.args.def.now no_let)) in
    let placed = rw c.deref.ensures at c.in_err-made.ensures.places in
    rw (stop_is c.from_residual-in_err-made.result c.in_err-made.field-0.0 c.from_residual-in_err-made.ensures)
    (stop_step (at ∷ []) value whole c.args.work.now.errors.items c.begin_def.new.errors.items c.translate_expr.new.work.errors.items c.in_err-made.field-0.0 here (value_inside at c.args.def.now) c.in_ok-name.ensures.places placed)

pub translate_def-returns-in_default-made-clause-places : goal.translate_def-returns-in_default-made-clause-places
translate_def-returns-in_default-made-clause-places t c =
    let at = S.position c.args.pos in
    let whole = at ∷ lets_positions (with_let c.args.def.now no_let) in
    let value = expr_positions (S.expr_view c.args.def.now.val.value) in
    let here : OccurAmong (at ∷ []) whole = among_first at (lets_positions (with_let c.args.def.now no_let)) in
    let placed = rw c.deref.ensures at c.in_ok-made.ensures.places in
    notes_parts (at ∷ []) value whole c.args.work.now.errors.items c.begin_def.new.errors.items c.translate_expr.new.work.errors.items here (value_inside at c.args.def.now) c.in_ok-name.ensures.places placed

pub translate_def-returns-clause-places : goal.translate_def-returns-clause-places
translate_def-returns-clause-places t c =
    let at = S.position c.args.pos in
    let whole = at ∷ lets_positions (with_let c.args.def.now no_let) in
    let value = expr_positions (S.expr_view c.args.def.now.val.value) in
    let here : OccurAmong (at ∷ []) whole = among_first at (lets_positions (with_let c.args.def.now no_let)) in
    let placed = rw c.deref.ensures at c.in_ok-made.ensures.places in
    rw c.in_ok-bound.ensures.binds.errors
    (notes_parts (at ∷ []) value whole c.args.work.now.errors.items c.begin_def.new.errors.items c.translate_expr.new.work.errors.items here (value_inside at c.args.def.now) c.in_ok-name.ensures.places placed)

pub translate_let-returns-in_err-bindings-clause-places : goal.translate_let-returns-in_err-bindings-clause-places
translate_let-returns-in_err-bindings-clause-places t c =
    let at = S.position c.args.pos in
    let defs = S.let_views c.args.defs.now in
    let body = S.expr_view c.args.body.now in
    let all = expr_positions (let_expr defs body at) in
    let first : List Position = at ∷ lets_positions defs in
    rw (stop_is c.from_residual.result c.in_err-bindings.field-0.0 c.from_residual.ensures)
    (stop_among first all c.args.work.now.errors.items c.translate_defs.new.work.errors.items c.in_err-bindings.field-0.0 (defs_inside defs body at) c.in_err-bindings.ensures.places)

pub translate_let-returns-in_err-made-clause-places : goal.translate_let-returns-in_err-made-clause-places
translate_let-returns-in_err-made-clause-places t c =
    let at = S.position c.args.pos in
    let defs = S.let_views c.args.defs.now in
    let body = S.expr_view c.args.body.now in
    let all = expr_positions (let_expr defs body at) in
    let first : List Position = at ∷ lets_positions defs in
    rw (stop_is c.from_residual-in_err-made.result c.in_err-made.field-0.0 c.from_residual-in_err-made.ensures)
    (stop_step first (expr_positions body) all c.args.work.now.errors.items c.translate_defs.new.work.errors.items c.translate_expr.new.work.errors.items c.in_err-made.field-0.0 (defs_inside defs body at) (body_inside defs body at) c.in_ok-bindings.ensures.places c.in_err-made.ensures.places)

pub translate_let-returns-in_default-clause-places : goal.translate_let-returns-in_default-clause-places
translate_let-returns-in_default-clause-places t c =
    let at = S.position c.args.pos in
    let defs = S.let_views c.args.defs.now in
    let body = S.expr_view c.args.body.now in
    let all = expr_positions (let_expr defs body at) in
    let first : List Position = at ∷ lets_positions defs in
    notes_parts first (expr_positions body) all c.args.work.now.errors.items c.translate_defs.new.work.errors.items c.translate_expr.new.work.errors.items (defs_inside defs body at) (body_inside defs body at) c.in_ok-bindings.ensures.places c.in_ok-made.ensures.places

pub translate_let-returns-clause-places : goal.translate_let-returns-clause-places
translate_let-returns-clause-places t c =
    let at = S.position c.args.pos in
    let defs = S.let_views c.args.defs.now in
    let body = S.expr_view c.args.body.now in
    let all = expr_positions (let_expr defs body at) in
    let first : List Position = at ∷ lets_positions defs in
    rw c.in_ok-whole.ensures.closes.errors
    (notes_parts first (expr_positions body) all c.args.work.now.errors.items c.translate_defs.new.work.errors.items c.translate_expr.new.work.errors.items (defs_inside defs body at) (body_inside defs body at) c.in_ok-bindings.ensures.places c.in_ok-made.ensures.places)

pub translate_expr-returns-in-ConstBool-clause-places : goal.translate_expr-returns-in-ConstBool-clause-places
translate_expr-returns-in-ConstBool-clause-places t c =
    rw c.in-ConstBool.is
    (stays_among (S.position c.in-ConstBool.pos ∷ []) (S.position c.in-ConstBool.pos ∷ []) c.args.work.now.errors.items c.make_bool.new.work.errors.items c.make_bool.result (among_first (S.position c.in-ConstBool.pos) []) c.make_bool.ensures.places)

pub translate_expr-returns-in-ConstInt-clause-places : goal.translate_expr-returns-in-ConstInt-clause-places
translate_expr-returns-in-ConstInt-clause-places t c =
    rw c.in-ConstInt.is
    (stays_among (S.position c.in-ConstInt.pos ∷ []) (S.position c.in-ConstInt.pos ∷ []) c.args.work.now.errors.items c.make_int.new.work.errors.items c.make_int.result (among_first (S.position c.in-ConstInt.pos) []) c.make_int.ensures.places)

pub translate_expr-returns-in-ConstPrim-clause-places : goal.translate_expr-returns-in-ConstPrim-clause-places
translate_expr-returns-in-ConstPrim-clause-places t c =
    rw c.in-ConstPrim.is
    (stays_among (S.position c.in-ConstPrim.pos ∷ []) (S.position c.in-ConstPrim.pos ∷ ((S.name_view c.in-ConstPrim.val).at ∷ [])) c.args.work.now.errors.items c.make_prim.new.work.errors.items c.make_prim.result (among_first (S.position c.in-ConstPrim.pos) ((S.name_view c.in-ConstPrim.val).at ∷ [])) c.make_prim.ensures.places)

pub translate_expr-returns-in_err-use_in_expr-in-Term-clause-places : goal.translate_expr-returns-in_err-use_in_expr-in-Term-clause-places
translate_expr-returns-in_err-use_in_expr-in-Term-clause-places t c =
    let name = S.name_view c.in-Term.sym in
    let args = S.expr_views c.deref.result.now in
    let at = S.position c.in-Term.pos in
    let all : List Position = expr_positions (term_expr name args at) in
    let here : OccurAmong (at ∷ []) all = among_first at (name.at ∷ exprs_positions args) in
    rw (stop_is c.from_residual.result c.in_err-use_in_expr-in-Term.field-0.0 c.from_residual.ensures, seen_call c.args.expr.now c.in-Term.sym c.in-Term.args c.in-Term.pos c.deref.result.now c.in-Term.is c.deref.ensures.value)
    (stop_among (at ∷ []) all c.args.work.now.errors.items c.use_in_expr.new.work.errors.items c.in_err-use_in_expr-in-Term.field-0.0 here c.in_err-use_in_expr-in-Term.ensures.places)

pub translate_expr-returns-in-Wrong-clause-places : goal.translate_expr-returns-in-Wrong-clause-places
translate_expr-returns-in-Wrong-clause-places t c =
    let name = S.name_view c.in-Term.sym in
    let args = S.expr_views c.deref.result.now in
    let at = S.position c.in-Term.pos in
    let all : List Position = expr_positions (term_expr name args at) in
    let here : OccurAmong (at ∷ []) all = among_first at (name.at ∷ exprs_positions args) in
    rw (seen_call c.args.expr.now c.in-Term.sym c.in-Term.args c.in-Term.pos c.deref.result.now c.in-Term.is c.deref.ensures.value) (notes_among (at ∷ []) all c.args.work.now.errors.items c.use_in_expr.new.work.errors.items here c.in_ok-use_in_expr-in-Term.ensures.places)

pub translate_expr-returns-in-Conversion-clause-places : goal.translate_expr-returns-in-Conversion-clause-places
translate_expr-returns-in-Conversion-clause-places t c =
    let name = S.name_view c.in-Term.sym in
    let args = S.expr_views c.deref.result.now in
    let at = S.position c.in-Term.pos in
    let all : List Position = expr_positions (term_expr name args at) in
    let here : OccurAmong (at ∷ []) all = among_first at (name.at ∷ exprs_positions args) in
    let made = expr_positions (S.expr_view c.in-Conversion.inside) in
    let inside : OccurAmong made all = rw (seen_call c.args.expr.now c.in-Term.sym c.in-Term.args c.in-Term.pos c.deref.result.now c.in-Term.is c.deref.ensures.value) at (rw c.in-Conversion.is at c.in_ok-use_in_expr-in-Term.ensures.among) in
    rw (seen_call c.args.expr.now c.in-Term.sym c.in-Term.args c.in-Term.pos c.deref.result.now c.in-Term.is c.deref.ensures.value)
    (stays_step (at ∷ []) made all c.args.work.now.errors.items c.use_in_expr.new.work.errors.items c.translate_expr.new.work.errors.items c.translate_expr.result here inside c.in_ok-use_in_expr-in-Term.ensures.places c.translate_expr.ensures.places)

pub translate_expr-returns-in_err-parts-in-Parts-clause-places : goal.translate_expr-returns-in_err-parts-in-Parts-clause-places
translate_expr-returns-in_err-parts-in-Parts-clause-places t c =
    let name = S.name_view c.in-Term.sym in
    let args = S.expr_views c.deref.result.now in
    let at = S.position c.in-Term.pos in
    let all : List Position = expr_positions (term_expr name args at) in
    let here : OccurAmong (at ∷ []) all = among_first at (name.at ∷ exprs_positions args) in
    let same : c.deref-in-Parts.result.now ≡ c.deref.result.now = c.deref-in-Parts.ensures.value ∙ sym c.deref.ensures.value in
    let parts = exprs_positions args in
    let placed = rw same at c.in_err-parts-in-Parts.ensures.places in
    rw (stop_is c.from_residual-in_err-parts-in-Parts.result c.in_err-parts-in-Parts.field-0.0 c.from_residual-in_err-parts-in-Parts.ensures, seen_call c.args.expr.now c.in-Term.sym c.in-Term.args c.in-Term.pos c.deref.result.now c.in-Term.is c.deref.ensures.value)
    (stop_step (at ∷ []) parts all c.args.work.now.errors.items c.use_in_expr.new.work.errors.items c.translate_exprs.new.work.errors.items c.in_err-parts-in-Parts.field-0.0 here (call_inside name args at) c.in_ok-use_in_expr-in-Term.ensures.places placed)

pub translate_expr-returns-in_ok-parts-in-Parts-clause-places : goal.translate_expr-returns-in_ok-parts-in-Parts-clause-places
translate_expr-returns-in_ok-parts-in-Parts-clause-places t c =
    let name = S.name_view c.in-Term.sym in
    let args = S.expr_views c.deref.result.now in
    let at = S.position c.in-Term.pos in
    let all : List Position = expr_positions (term_expr name args at) in
    let here : OccurAmong (at ∷ []) all = among_first at (name.at ∷ exprs_positions args) in
    let same : c.deref-in-Parts.result.now ≡ c.deref.result.now = c.deref-in-Parts.ensures.value ∙ sym c.deref.ensures.value in
    let parts = exprs_positions args in
    let placed = rw same at c.in_ok-parts-in-Parts.ensures.places in
    rw (seen_call c.args.expr.now c.in-Term.sym c.in-Term.args c.in-Term.pos c.deref.result.now c.in-Term.is c.deref.ensures.value) (notes_parts (at ∷ []) parts all c.args.work.now.errors.items c.use_in_expr.new.work.errors.items c.translate_exprs.new.work.errors.items here (call_inside name args at) c.in_ok-use_in_expr-in-Term.ensures.places placed)

pub translate_expr-returns-in_err-use_var-in-Var-clause-places : goal.translate_expr-returns-in_err-use_var-in-Var-clause-places
translate_expr-returns-in_err-use_var-in-Var-clause-places t c =
    let at = S.position c.in-Var.pos in
    let name = S.name_view c.in-Var.name in
    let all : List Position = at ∷ name.at ∷ [] in
    let here : OccurAmong (at ∷ []) all = among_first at (name.at ∷ []) in
    rw (stop_is c.from_residual-in_err-use_var-in-Var.result c.in_err-use_var-in-Var.field-0.0 c.from_residual-in_err-use_var-in-Var.ensures, c.in-Var.is)
    (stop_among (at ∷ []) all c.args.work.now.errors.items c.use_var.new.work.errors.items c.in_err-use_var-in-Var.field-0.0 here c.in_err-use_var-in-Var.ensures.places)

pub translate_expr-returns-in-Wrong-2-clause-places : goal.translate_expr-returns-in-Wrong-2-clause-places
translate_expr-returns-in-Wrong-2-clause-places t c =
    let at = S.position c.in-Var.pos in
    let name = S.name_view c.in-Var.name in
    let all : List Position = at ∷ name.at ∷ [] in
    let here : OccurAmong (at ∷ []) all = among_first at (name.at ∷ []) in
    rw c.in-Var.is (notes_among (at ∷ []) all c.args.work.now.errors.items c.use_var.new.work.errors.items here c.in_ok-use_var-in-Var.ensures.places)

pub translate_expr-returns-in-Var-2-clause-places : goal.translate_expr-returns-in-Var-2-clause-places
translate_expr-returns-in-Var-2-clause-places t c =
    let at = S.position c.in-Var.pos in
    let name = S.name_view c.in-Var.name in
    let all : List Position = at ∷ name.at ∷ [] in
    let here : OccurAmong (at ∷ []) all = among_first at (name.at ∷ []) in
    rw c.in-Var.is (notes_among (at ∷ []) all c.args.work.now.errors.items c.use_var.new.work.errors.items here c.in_ok-use_var-in-Var.ensures.places)

pub translate_expr-returns-in-Conversion-2-clause-places : goal.translate_expr-returns-in-Conversion-2-clause-places
translate_expr-returns-in-Conversion-2-clause-places t c =
    let at = S.position c.in-Var.pos in
    let name = S.name_view c.in-Var.name in
    let all : List Position = at ∷ name.at ∷ [] in
    let here : OccurAmong (at ∷ []) all = among_first at (name.at ∷ []) in
    let made = expr_positions (S.expr_view c.in-Conversion-2.inside) in
    let inside : OccurAmong made all = rw c.in-Var.is at (rw c.in-Conversion-2.is at c.in_ok-use_var-in-Var.ensures.among) in
    rw c.in-Var.is
    (stays_step (at ∷ []) made all c.args.work.now.errors.items c.use_var.new.work.errors.items c.translate_expr-in-Conversion-2.new.work.errors.items c.translate_expr-in-Conversion-2.result here inside c.in_ok-use_var-in-Var.ensures.places c.translate_expr-in-Conversion-2.ensures.places)

pub translate_expr-returns-in-Let-clause-places : goal.translate_expr-returns-in-Let-clause-places
translate_expr-returns-in-Let-clause-places t c =
    rw (seen_let c.args.expr.now c.in-Let.defs c.in-Let.body c.in-Let.pos c.deref-in-Let.result.now c.deref-in-Let-2.result.now c.in-Let.is c.deref-in-Let.ensures.value c.deref-in-Let-2.ensures)
    c.translate_let.ensures.places

pub translate_let-returns-in_err-bindings-clause-reads : goal.translate_let-returns-in_err-bindings-clause-reads
translate_let-returns-in_err-bindings-clause-reads t c =
    rw (stop_is c.from_residual.result c.in_err-bindings.field-0.0 c.from_residual.ensures)
    (let_stops_first c.args.self.now (standing c.args.tyenv.now c.args.work.now) (standing c.translate_defs.new.tyenv c.translate_defs.new.work)
    (S.let_views c.args.defs.now) (S.expr_view c.args.body.now) (S.position c.args.pos) (flags_view c.args.flags) (expected c.args.expected_ty) c.args.nesting c.in_err-bindings.field-0.0 c.in_err-bindings.ensures.reads)

pub translate_let-returns-in_err-made-clause-reads : goal.translate_let-returns-in_err-made-clause-reads
translate_let-returns-in_err-made-clause-reads t c =
    let hides = rw c.new-hidden.ensures.items at c.in_ok-bindings.ensures.hides in
    rw (stop_is c.from_residual-in_err-made.result c.in_err-made.field-0.0 c.from_residual-in_err-made.ensures)
    (body_stops c.args.self.now (standing c.args.tyenv.now c.args.work.now) (standing c.translate_defs.new.tyenv c.translate_defs.new.work)
    (S.let_views c.args.defs.now) (S.expr_view c.args.body.now) (S.position c.args.pos) (flags_view c.args.flags) (expected c.args.expected_ty) c.args.nesting (let_parts (let_views c.in_ok-bindings.bindings.items)) c.translate_defs.new.hidden.items c.translate_defs.ensures.keeps c.in_ok-bindings.ensures.reads hides
    (standing c.translate_expr.new.tyenv c.translate_expr.new.work) c.in_err-made.field-0.0 c.in_err-made.ensures.reads)

pub translate_let-returns-in_default-clause-reads : goal.translate_let-returns-in_default-clause-reads
translate_let-returns-in_default-clause-reads t c =
    let hides = rw c.new-hidden.ensures.items at c.in_ok-bindings.ensures.hides in
    let_not_made c.args.self.now (standing c.args.tyenv.now c.args.work.now) (standing c.translate_defs.new.tyenv c.translate_defs.new.work)
    (S.let_views c.args.defs.now) (S.expr_view c.args.body.now) (S.position c.args.pos) (flags_view c.args.flags) (expected c.args.expected_ty) c.args.nesting (let_parts (let_views c.in_ok-bindings.bindings.items)) c.translate_defs.new.hidden.items c.translate_defs.ensures.keeps c.in_ok-bindings.ensures.reads hides
    (standing c.translate_expr.new.tyenv c.translate_expr.new.work) (rw c.in_default.is at c.in_ok-made.ensures.reads)

pub translate_let-returns-clause-reads : goal.translate_let-returns-clause-reads
translate_let-returns-clause-reads t c =
    let hides = rw c.new-hidden.ensures.items at c.in_ok-bindings.ensures.hides in
    rw c.in_ok-whole.ensures.view
    (let_taken c.args.self.now (standing c.args.tyenv.now c.args.work.now) (standing c.translate_defs.new.tyenv c.translate_defs.new.work)
    (S.let_views c.args.defs.now) (S.expr_view c.args.body.now) (S.position c.args.pos) (flags_view c.args.flags) (expected c.args.expected_ty) c.args.nesting (let_parts (let_views c.in_ok-bindings.bindings.items)) c.translate_defs.new.hidden.items c.translate_defs.ensures.keeps c.in_ok-bindings.ensures.reads hides
    (standing c.translate_expr.new.tyenv c.translate_expr.new.work) (standing c.translate_expr.new.tyenv c.end_let.new.work) refl c.in_ok-whole.ensures.closes (expr_view c.in-Some.body) (rw c.in-Some.is at c.in_ok-made.ensures.reads))

pub translate_defs-returns-in_err-made-clause-reads : goal.translate_defs-returns-in_err-made-clause-reads
translate_defs-returns-in_err-made-clause-reads t c =
    rw (stop_is c.from_residual-in_err-made.result c.in_err-made.field-0.0 c.from_residual-in_err-made.ensures)
    (def_stops_all c.args.self.now (standing c.args.tyenv.now c.args.work.now) (standing c.loop-def.tyenv c.loop-def.work) (lets_steps (S.let_views c.args.defs.now) (flags_view c.args.flags) (S.position c.args.pos) c.args.nesting)
    (defs_from c.args.defs.now (flags_view c.args.flags) (S.position c.args.pos) c.args.nesting c.loop-def.def-index) c.loop-def.bindings.items c.args.hidden.now.items c.loop-def.hidden.items c.loop-def.invariant.2
    (S.name_view c.def-item.result.var) (S.name_view c.def-item.result.ty) (S.expr_view c.def-item.result.val.value) (flags_view c.args.flags) (S.position c.args.pos) c.args.nesting
    (defs_from c.args.defs.now (flags_view c.args.flags) (S.position c.args.pos) c.args.nesting (c.loop-def.def-index + 1)) (standing c.translate_def.new.tyenv c.translate_def.new.work) c.loop-def.invariant.0
    (def_first c.args.defs.now (flags_view c.args.flags) (S.position c.args.pos) c.args.nesting c.loop-def.def-index c.def-item.result c.loop-def-test.true c.def-item.is)
    c.in_err-made.field-0.0 c.in_err-made.ensures.reads)

pub translate_defs-returns-clause-reads : goal.translate_defs-returns-clause-reads
translate_defs-returns-clause-reads t c =
    all_defined c.args.self.now (standing c.args.tyenv.now c.args.work.now) (standing c.loop-def.tyenv c.loop-def.work) (lets_steps (S.let_views c.args.defs.now) (flags_view c.args.flags) (S.position c.args.pos) c.args.nesting)
    (defs_from c.args.defs.now (flags_view c.args.flags) (S.position c.args.pos) c.args.nesting c.loop-def.def-index) c.loop-def.bindings.items c.args.hidden.now.items c.loop-def.hidden.items c.loop-def.invariant.2
    (defs_read c.args.defs.now (flags_view c.args.flags) (S.position c.args.pos) c.args.nesting c.loop-def.def-index c.loop-def-test.false)

pub translate_defs-returns-clause-hides : goal.translate_defs-returns-clause-hides
translate_defs-returns-clause-hides t c =
    all_hidden c.args.self.now (standing c.args.tyenv.now c.args.work.now) (standing c.loop-def.tyenv c.loop-def.work) (lets_steps (S.let_views c.args.defs.now) (flags_view c.args.flags) (S.position c.args.pos) c.args.nesting)
    (defs_from c.args.defs.now (flags_view c.args.flags) (S.position c.args.pos) c.args.nesting c.loop-def.def-index) c.loop-def.bindings.items c.args.hidden.now.items c.loop-def.hidden.items c.loop-def.invariant.2
    (defs_read c.args.defs.now (flags_view c.args.flags) (S.position c.args.pos) c.args.nesting c.loop-def.def-index c.loop-def-test.false)

pub translate_def-returns-in_default-clause-reads : goal.translate_def-returns-in_default-clause-reads
translate_def-returns-in_default-clause-reads t c =
    let u = rw c.in_default.is at c.in_ok-name.ensures.begins in
    let noted = rw c.in_default.is at c.in_ok-name.ensures.exact in
    unknown_def c.args.self.now (standing c.args.tyenv.now c.args.work.now) _ (S.name_view c.args.def.now.var) (S.name_view c.args.def.now.ty) (S.expr_view c.args.def.now.val.value) (flags_view c.args.flags) (S.position c.args.pos) c.args.nesting
    c.requires u.2 (record { vars = refl; names = λ k. refl; expansions = refl }) u.1 noted

pub translate_def-returns-in_default-clause-hides : goal.translate_def-returns-in_default-clause-hides
translate_def-returns-in_default-clause-hides t c =
    let u = rw c.in_default.is at c.in_ok-name.ensures.begins in
    unknown_hides c.args.self.now (standing c.args.tyenv.now c.args.work.now) (standing c.begin_def.new.tyenv c.args.work.now) (S.name_view c.args.def.now.var) (S.name_view c.args.def.now.ty) (S.expr_view c.args.def.now.val.value) (flags_view c.args.flags) (S.position c.args.pos) c.args.nesting
    c.requires u.2 (record { vars = refl; names = λ k. refl; expansions = refl }) u.1 c.args.hidden.now.items

pub translate_def-returns-in_err-made-clause-reads : goal.translate_def-returns-in_err-made-clause-reads
translate_def-returns-in_err-made-clause-reads t c =
    let u = rw c.in-Some.is at c.in_ok-name.ensures.begins in
    rw (stop_is c.from_residual-in_err-made.result c.in_err-made.field-0.0 c.from_residual-in_err-made.ensures)
    (value_stops c.args.self.now (standing c.args.tyenv.now c.args.work.now) (standing c.begin_def.new.tyenv _) (S.name_view c.args.def.now.var) (S.name_view c.args.def.now.ty) (S.expr_view c.args.def.now.val.value) (flags_view c.args.flags) (S.position c.args.pos) c.args.nesting
    c.requires u.1 (record { vars = refl; names = λ k. refl; expansions = refl }) c.begin_def.ensures.keeps c.in-Some.ty.0 u.3 u.0 (standing c.translate_expr.new.tyenv c.translate_expr.new.work) c.in_err-made.field-0.0 (rw c.deref.ensures at c.in_err-made.ensures.reads))

pub translate_def-returns-in_default-made-clause-reads : goal.translate_def-returns-in_default-made-clause-reads
translate_def-returns-in_default-made-clause-reads t c =
    let u = rw c.in-Some.is at c.in_ok-name.ensures.begins in
    def_not_made c.args.self.now (standing c.args.tyenv.now c.args.work.now) (standing c.begin_def.new.tyenv _) (S.name_view c.args.def.now.var) (S.name_view c.args.def.now.ty) (S.expr_view c.args.def.now.val.value) (flags_view c.args.flags) (S.position c.args.pos) c.args.nesting
    c.requires u.1 (record { vars = refl; names = λ k. refl; expansions = refl }) c.begin_def.ensures.keeps c.in-Some.ty.0 u.3 u.0 (standing c.translate_expr.new.tyenv c.translate_expr.new.work) (rw (c.in_default-made.is, c.deref.ensures) at c.in_ok-made.ensures.reads)

pub translate_def-returns-in_default-made-clause-hides : goal.translate_def-returns-in_default-made-clause-hides
translate_def-returns-in_default-made-clause-hides t c =
    let u = rw c.in-Some.is at c.in_ok-name.ensures.begins in
    def_not_hidden c.args.self.now (standing c.args.tyenv.now c.args.work.now) (standing c.begin_def.new.tyenv _) (S.name_view c.args.def.now.var) (S.name_view c.args.def.now.ty) (S.expr_view c.args.def.now.val.value) (flags_view c.args.flags) (S.position c.args.pos) c.args.nesting
    c.requires u.1 (record { vars = refl; names = λ k. refl; expansions = refl }) c.begin_def.ensures.keeps c.in-Some.ty.0 u.3 u.0 (standing c.translate_expr.new.tyenv c.translate_expr.new.work) (rw (c.in_default-made.is, c.deref.ensures) at c.in_ok-made.ensures.reads) c.args.hidden.now.items

pub translate_def-returns-clause-reads : goal.translate_def-returns-clause-reads
translate_def-returns-clause-reads t c =
    let u = rw c.in-Some.is at c.in_ok-name.ensures.begins in
    def_taken c.args.self.now (standing c.args.tyenv.now c.args.work.now) (standing c.begin_def.new.tyenv _) (S.name_view c.args.def.now.var) (S.name_view c.args.def.now.ty) (S.expr_view c.args.def.now.val.value) (flags_view c.args.flags) (S.position c.args.pos) c.args.nesting
    c.requires u.1 (record { vars = refl; names = λ k. refl; expansions = refl }) c.begin_def.ensures.keeps c.in-Some.ty.0 u.3 u.0 (standing c.translate_expr.new.tyenv c.translate_expr.new.work) (standing c.translate_expr.new.tyenv c.bind_def.new.work) refl c.translate_expr.ensures.keeps c.args.hidden.now.items c.bind_def.new.hidden.items
    c.in-Some.name.0 u.2 (expr_view c.in-Some-made.val) c.in_ok-bound.bound c.in_ok-bound.ensures (rw (c.in-Some-made.is, c.deref.ensures) at c.in_ok-made.ensures.reads)

pub translate_def-returns-clause-hides : goal.translate_def-returns-clause-hides
translate_def-returns-clause-hides t c =
    let u = rw c.in-Some.is at c.in_ok-name.ensures.begins in
    def_hides c.args.self.now (standing c.args.tyenv.now c.args.work.now) (standing c.begin_def.new.tyenv _) (S.name_view c.args.def.now.var) (S.name_view c.args.def.now.ty) (S.expr_view c.args.def.now.val.value) (flags_view c.args.flags) (S.position c.args.pos) c.args.nesting
    c.requires u.1 (record { vars = refl; names = λ k. refl; expansions = refl }) c.begin_def.ensures.keeps c.in-Some.ty.0 u.3 u.0 (standing c.translate_expr.new.tyenv c.translate_expr.new.work) (standing c.translate_expr.new.tyenv c.bind_def.new.work) refl c.translate_expr.ensures.keeps c.args.hidden.now.items c.bind_def.new.hidden.items
    c.in-Some.name.0 u.2 (expr_view c.in-Some-made.val) c.in_ok-bound.bound c.in_ok-bound.ensures (rw (c.in-Some-made.is, c.deref.ensures) at c.in_ok-made.ensures.reads)

pub translate_expr-returns-in-Wrong-clause-reads : goal.translate_expr-returns-in-Wrong-clause-reads
translate_expr-returns-in-Wrong-clause-reads t c = rw c.in-Wrong.is at c.in_ok-use_in_expr-in-Term.ensures.reads

pub translate_expr-returns-in-Conversion-clause-reads : goal.translate_expr-returns-in-Conversion-clause-reads
translate_expr-returns-in-Conversion-clause-reads t c =
    let on = rw c.in-Conversion.is at (c.in_ok-use_in_expr-in-Term.ensures.reads) in
    expansion_done c.args.self.now (standing c.args.tyenv.now c.args.work.now) (standing c.args.tyenv.now c.use_in_expr.new.work) _ refl (expr_steps (S.expr_view c.args.expr.now) (flags_view c.args.flags) (expected c.args.expected_ty) c.args.nesting)
    (expr_steps (S.expr_view c.in-Conversion.inside) (flags_view c.args.flags) (expected c.args.expected_ty) c.in-Conversion.left) (option_map expr_view) on _ c.translate_expr.ensures.reads

pub translate_expr-returns-in_err-parts-in-Parts-clause-reads : goal.translate_expr-returns-in_err-parts-in-Parts-clause-reads
translate_expr-returns-in_err-parts-in-Parts-clause-reads t c =
    let on = rw c.in-Parts.is at c.in_ok-use_in_expr-in-Term.ensures.reads in
    let args : c.deref-in-Parts.result.now ≡ c.deref.result.now = c.deref-in-Parts.ensures.value ∙ sym c.deref.ensures.value in
    let made = rw (args, c.as_slice-tys.ensures.value) at c.in_err-parts-in-Parts.ensures.reads in
    rw (stop_is c.from_residual-in_err-parts-in-Parts.result c.in_err-parts-in-Parts.field-0.0 c.from_residual-in_err-parts-in-Parts.ensures)
    (rest_stops c.args.self.now (standing c.args.tyenv.now c.args.work.now) (standing c.args.tyenv.now c.use_in_expr.new.work) (standing c.translate_exprs.new.tyenv c.translate_exprs.new.work) refl
    (expr_steps (S.expr_view c.args.expr.now) (flags_view c.args.flags) (expected c.args.expected_ty) c.args.nesting) (args_steps (S.expr_views c.deref.result.now) (flags_view c.args.flags) (term_view c.in-Parts.term.now).arg_tys c.args.nesting)
    (made_end (make_term (term_view c.in-Parts.term.now).ret_ty (term_view c.in-Parts.term.now).id)) on (λ l. refl) c.in_err-parts-in-Parts.field-0.0 made)

pub translate_expr-returns-in_ok-parts-in-Parts-clause-reads : goal.translate_expr-returns-in_ok-parts-in-Parts-clause-reads
translate_expr-returns-in_ok-parts-in-Parts-clause-reads t c =
    let on = rw c.in-Parts.is at c.in_ok-use_in_expr-in-Term.ensures.reads in
    let args : c.deref-in-Parts.result.now ≡ c.deref.result.now = c.deref-in-Parts.ensures.value ∙ sym c.deref.ensures.value in
    let made = rw (args, c.as_slice-tys.ensures.value) at c.in_ok-parts-in-Parts.ensures.reads in
    rw (row_exprs-hidden c.in_ok-parts-in-Parts.parts)
    (rest_ends c.args.self.now (standing c.args.tyenv.now c.args.work.now) (standing c.args.tyenv.now c.use_in_expr.new.work) (standing c.translate_exprs.new.tyenv c.translate_exprs.new.work) refl
    (expr_steps (S.expr_view c.args.expr.now) (flags_view c.args.flags) (expected c.args.expected_ty) c.args.nesting) (args_steps (S.expr_views c.deref.result.now) (flags_view c.args.flags) (term_view c.in-Parts.term.now).arg_tys c.args.nesting)
    (made_end (make_term (term_view c.in-Parts.term.now).ret_ty (term_view c.in-Parts.term.now).id)) on (Ok (Some (expr_parts (expr_views c.in_ok-parts-in-Parts.parts.items)))) made)

pub translate_expr-returns-in_err-use_var-in-Var-clause-reads : goal.translate_expr-returns-in_err-use_var-in-Var-clause-reads
translate_expr-returns-in_err-use_var-in-Var-clause-reads t c =
    rw (stop_is c.from_residual-in_err-use_var-in-Var.result c.in_err-use_var-in-Var.field-0.0 c.from_residual-in_err-use_var-in-Var.ensures) (c.in_err-use_var-in-Var.ensures.reads (flags_view c.args.flags))

pub translate_expr-returns-in-Wrong-2-clause-reads : goal.translate_expr-returns-in-Wrong-2-clause-reads
translate_expr-returns-in-Wrong-2-clause-reads t c = rw c.in-Wrong-2.is at (c.in_ok-use_var-in-Var.ensures.reads (flags_view c.args.flags))

pub translate_expr-returns-in-Conversion-2-clause-reads : goal.translate_expr-returns-in-Conversion-2-clause-reads
translate_expr-returns-in-Conversion-2-clause-reads t c =
    let on = rw c.in-Conversion-2.is at (c.in_ok-use_var-in-Var.ensures.reads (flags_view c.args.flags)) in
    expansion_done c.args.self.now (standing c.args.tyenv.now c.args.work.now) (standing c.args.tyenv.now c.use_var.new.work) _ refl (expr_steps (S.expr_view c.args.expr.now) (flags_view c.args.flags) (expected c.args.expected_ty) c.args.nesting)
    (expr_steps (S.expr_view c.in-Conversion-2.inside) (flags_view c.args.flags) (expected c.args.expected_ty) c.in-Conversion-2.left) (option_map expr_view) on _ c.translate_expr-in-Conversion-2.ensures.reads

pub translate_expr-returns-in-Var-2-clause-reads : goal.translate_expr-returns-in-Var-2-clause-reads
translate_expr-returns-in-Var-2-clause-reads t c = rw c.in-Var-2.is at (c.in_ok-use_var-in-Var.ensures.reads (flags_view c.args.flags))

pub translate_expr-returns-in-ConstBool-clause-reads : goal.translate_expr-returns-in-ConstBool-clause-reads
translate_expr-returns-in-ConstBool-clause-reads t c = rw c.in-ConstBool.is (c.make_bool.ensures.reads (flags_view c.args.flags) c.args.nesting)

pub translate_expr-returns-in-ConstInt-clause-reads : goal.translate_expr-returns-in-ConstInt-clause-reads
translate_expr-returns-in-ConstInt-clause-reads t c =
    let fits : SFits w128 c.in-ConstInt.val = search rules in
    rw c.in-ConstInt.is (rw (to_z-of_z w128 c.in-ConstInt.val fits) at (c.make_int.ensures.reads (flags_view c.args.flags) c.args.nesting))

pub translate_expr-returns-in-ConstPrim-clause-reads : goal.translate_expr-returns-in-ConstPrim-clause-reads
translate_expr-returns-in-ConstPrim-clause-reads t c = rw c.in-ConstPrim.is (c.make_prim.ensures.reads (flags_view c.args.flags) c.args.nesting)

pub translate_expr-returns-in-Let-clause-reads : goal.translate_expr-returns-in-Let-clause-reads
translate_expr-returns-in-Let-clause-reads t c =
    rw (seen_let c.args.expr.now c.in-Let.defs c.in-Let.body c.in-Let.pos c.deref-in-Let.result.now c.deref-in-Let-2.result.now c.in-Let.is c.deref-in-Let.ensures.value c.deref-in-Let-2.ensures)
    c.translate_let.ensures.reads

pub translate_exprs-returns-in_err-part-clause-reads : goal.translate_exprs-returns-in_err-part-clause-reads
translate_exprs-returns-in_err-part-clause-reads t c =
    let w : c.loop-i.i < length c.args.args.now = search rules in
    let v : c.loop-i.i < length c.args.tys.now = search rules in
    let ty : TypeId = get_or c.args.tys.now c.loop-i.i (record { 0 = 0 }) in
    rw (stop_is c.from_residual-in_err-part.result c.in_err-part.field-0.0 c.from_residual-in_err-part.ensures)
    (arg_stops_all (flags_view c.args.flags) c.args.args.now c.args.tys.now c.args.nesting c.loop-i.i c.index-args-i.result w c.index-args-i.is ty v (same_default c.args.tys.now c.loop-i.i (record { 0 = 0 }) ty v)
    c.args.self.now (standing c.args.tyenv.now c.args.work.now) (standing c.loop-i.tyenv c.loop-i.work) (standing c.translate_expr.new.tyenv c.translate_expr.new.work) c.loop-i.invariant.0
    (args_steps (S.expr_views c.args.args.now) (flags_view c.args.flags) (map (λ t. t.0) c.args.tys.now) c.args.nesting) c.loop-i.parts.items c.loop-i.invariant.2 c.in_err-part.field-0.0 c.in_err-part.ensures.reads)

pub translate_exprs-returns-clause-reads : goal.translate_exprs-returns-clause-reads
translate_exprs-returns-clause-reads t c =
    let count : min (length c.args.args.now) (length c.args.tys.now) ≤ c.loop-i.i = search rules in
    all_read c.args.self.now (standing c.args.tyenv.now c.args.work.now) (standing c.loop-i.tyenv c.loop-i.work) (args_steps (S.expr_views c.args.args.now) (flags_view c.args.flags) (map (λ t. t.0) c.args.tys.now) c.args.nesting)
    (args_from (flags_view c.args.flags) c.args.args.now c.args.tys.now c.args.nesting c.loop-i.i) c.loop-i.parts.items (args_read (flags_view c.args.flags) c.args.args.now c.args.tys.now c.args.nesting c.loop-i.i count) c.loop-i.invariant.2

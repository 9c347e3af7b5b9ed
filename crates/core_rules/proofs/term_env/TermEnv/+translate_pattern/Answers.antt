use Rattle.std.proofs.Common.{◌≡◌, ℕ, ◌<◌, ◌≤◌, min, List, [], ◌∷◌, length, map, get_or, Some, option_map, Ok, refl, sym, ap, ◌∙◌, rules, arith}
use Rattle.std.proofs.lemmas.Int.{to_z-of_z}
use mir.Val.{SFits}
use mir.Syntax.{w128}
use Rattle.model.specs.lists.Syntax.{Position, bind_pattern, term_pattern, and_pattern}
use Rattle.model.specs.rules.Typed.{match_and, match_term}
use Rattle.core_types.specs.declared.ids.TypeId.{TypeId}
use Rattle.core_syntax.specs.SyntaxViews as S
use Rattle.core_terms.specs.TermViews.{term_view, term_views}
use Rattle.core_typed.specs.PatternViews.{pattern_view, pattern_views, pattern_parts}
use Rattle.core_rules.specs.ShownSettings.{standing}
use Rattle.core_typed.proofs.Defaults.{same_default}
use Rattle.core_typed.proofs.PatternBridges.{row_patterns-hidden}
use Rattle.core_rules.proofs.PatternSizes.{tree_size, trees_size, growth, grown, smaller, deeper_smaller, expansion_smaller, smaller_part}
use Rattle.core_rules.proofs.PatternForms.{seen_bind, seen_term, seen_and}
use Rattle.core_rules.proofs.Readings.{stop_is, keep_none, keep_on}
use Rattle.core_syntax.specs.Positions.{OccurAmong, pattern_positions, patterns_positions}
use Rattle.core_syntax.proofs.Positioned.{among_same, among_first, notes_among, notes_nothing, notes_parts}
use Rattle.core_rules.specs.RulePositions.{with_templates}
use Rattle.core_rules.proofs.ErrorPositions.{among_with, among_here, among_made, stays_head, stays_step, stop_among, stop_step}
use Rattle.core_rules.proofs.PartPlaces.{bind_inside, term_inside, and_inside, part_inside}
use Rattle.core_rules.specs.PatternTaking.{pattern_steps, parts_steps, each_steps, made_end}
use Rattle.core_rules.proofs.PatternListsTaken.{args_from, each_from, none_read, all_read, arg_goes_on, arg_stops_all, each_goes_on, each_stops_all, args_read, each_read}
use Rattle.core_rules.proofs.PatternsTaken.{any_taken, around_stops, around_nothing, around_takes}
use Rattle.core_rules.proofs.Taken.{expansion_done, rest_ends, rest_stops, made_ends, made_stopped}
use Rattle.core_rules.proofs.term_env.TermEnv.+translate_pattern.Goals as goal

pub translate_pattern-use_in_pattern-requires-clause-whole : goal.translate_pattern-use_in_pattern-requires-clause-whole
translate_pattern-use_in_pattern-requires-clause-whole t c = seen_term c.args.pat.now c.in-Term.sym c.in-Term.args c.in-Term.pos c.deref-in-Term.result.now c.in-Term.is c.deref-in-Term.ensures.value

pub translate_pattern-translate_pattern-requires : goal.translate_pattern-translate_pattern-requires
translate_pattern-translate_pattern-requires t c =
    let size = ap tree_size (seen_bind c.args.pat.now c.in-BindPattern.var c.in-BindPattern.subpat c.in-BindPattern.pos c.deref.result.now c.in-BindPattern.is c.deref.ensures) in
    let less = smaller (term_views c.args.self.now.terms.items) c.args.nesting (tree_size (S.pattern_view c.deref.result.now)) (tree_size (S.pattern_view c.args.pat.now)) (omega (arith, size)) in
    (omega (arith, c.decreases, less), c.requires)

pub translate_pattern-translate_pattern-requires-in-Expansion : goal.translate_pattern-translate_pattern-requires-in-Expansion
translate_pattern-translate_pattern-requires-in-Expansion t c =
    let u = rw c.in-Expansion.is at c.in_ok-use_in_pattern-in-Term.ensures.deeper in
    let size = ap tree_size (seen_term c.args.pat.now c.in-Term.sym c.in-Term.args c.in-Term.pos c.deref-in-Term.result.now c.in-Term.is c.deref-in-Term.ensures.value) in
    let less = deeper_smaller (term_views c.args.self.now.terms.items) c.in-Expansion.left (tree_size (S.pattern_view c.in-Expansion.made)) (tree_size (S.pattern_view c.args.pat.now))
    (expansion_smaller c.args.self.now (S.pattern_view c.args.pat.now) (S.pattern_views c.deref-in-Term.result.now) (S.pattern_view c.in-Expansion.made) size u.1) in
    let there = ap (λ (d : ℕ). grown (growth (term_views c.args.self.now.terms.items)) d (tree_size (S.pattern_view c.args.pat.now))) u.0 in
    (omega (arith, c.decreases, less, there), c.requires)

pub translate_pattern-translate_args-requires : goal.translate_pattern-translate_args-requires
translate_pattern-translate_args-requires t c =
    let size = ap tree_size (seen_term c.args.pat.now c.in-Term.sym c.in-Term.args c.in-Term.pos c.deref-in-Parts.result.now c.in-Term.is c.deref-in-Parts.ensures.value) in
    let less = smaller (term_views c.args.self.now.terms.items) c.args.nesting (trees_size (S.pattern_views c.deref-in-Parts.result.now)) (tree_size (S.pattern_view c.args.pat.now)) (omega (arith, size)) in
    (omega (arith, c.decreases, less), c.requires)

pub translate_pattern-translate_each-requires : goal.translate_pattern-translate_each-requires
translate_pattern-translate_each-requires t c =
    let size = ap tree_size (seen_and c.args.pat.now c.in-And.subpats c.in-And.pos c.deref-in-And.result.now c.in-And.is c.deref-in-And.ensures.value) in
    let less = smaller (term_views c.args.self.now.terms.items) c.args.nesting (trees_size (S.pattern_views c.deref-in-And.result.now)) (tree_size (S.pattern_view c.args.pat.now)) (omega (arith, size)) in
    (omega (arith, c.decreases, less), c.requires)

pub translate_args-translate_pattern-requires : goal.translate_args-translate_pattern-requires
translate_args-translate_pattern-requires t c =
    let w : c.loop-i.i < length c.args.args.now = search rules in
    let part = smaller_part c.args.args.now c.loop-i.i c.index-args-i.result w in
    let same = ap (λ p. tree_size (S.pattern_view p)) c.index-args-i.is in
    let less = smaller (term_views c.args.self.now.terms.items) c.args.nesting (tree_size (S.pattern_view c.index-args-i.result)) (trees_size (S.pattern_views c.args.args.now)) (omega (arith, part, same)) in
    (omega (arith, c.decreases, less), c.loop-i.invariant.0.inverse)

pub translate_each-translate_pattern-requires : goal.translate_each-translate_pattern-requires
translate_each-translate_pattern-requires t c =
    let part = smaller_part c.args.subpats.now c.loop-subpat.subpat-index c.subpat-item.result c.loop-subpat-test.true in
    let same = ap (λ p. tree_size (S.pattern_view p)) c.subpat-item.is in
    let less = smaller (term_views c.args.self.now.terms.items) c.args.nesting (tree_size (S.pattern_view c.subpat-item.result)) (trees_size (S.pattern_views c.args.subpats.now)) (omega (arith, part, same)) in
    (omega (arith, c.decreases, less), c.loop-subpat.invariant.0.inverse)

pub translate_args-loop-i-init : goal.translate_args-loop-i-init
translate_args-loop-i-init t c = (
  keep_none c.args.tyenv.now c.requires,
  notes_nothing _ _ _ refl,
  none_read c.args.self.now (standing c.args.tyenv.now c.args.work.now) (parts_steps c.args.multi (S.pattern_views c.args.args.now) (map (λ t. t.0) c.args.tys.now) c.args.nesting) c.in_ok-parts.parts.items c.in_ok-parts.ensures.items,
)

pub translate_args-loop-i-preserved : goal.translate_args-loop-i-preserved
translate_args-loop-i-preserved t c =
    let w : c.loop-i.i < length c.args.args.now = search rules in
    let v : c.loop-i.i < length c.args.tys.now = search rules in
    let ty : TypeId = get_or c.args.tys.now c.loop-i.i (record { 0 = 0 }) in
    let pushed = c.in_ok-push_part.ensures in (
      keep_on c.args.tyenv.now c.loop-i.tyenv c.translate_pattern.new.tyenv c.loop-i.invariant.0 c.translate_pattern.ensures.keeps,
      (
          let whole = patterns_positions (S.pattern_views c.args.args.now) in
          let part = pattern_positions (S.pattern_view c.index-args-i.result) in
          notes_parts (with_templates c.args.self.now whole) (with_templates c.args.self.now part) (with_templates c.args.self.now whole) c.args.work.now.errors.items c.loop-i.work.errors.items c.translate_pattern.new.work.errors.items
          (among_same (with_templates c.args.self.now whole)) (among_with c.args.self.now part whole (part_inside c.args.args.now c.loop-i.i c.index-args-i.result w c.index-args-i.is)) c.loop-i.invariant.1 c.in_ok-part.ensures.places
          ),
      rw pushed
          (arg_goes_on c.args.multi c.args.args.now c.args.nesting c.loop-i.i c.index-args-i.result w c.index-args-i.is
          c.args.self.now (standing c.args.tyenv.now c.args.work.now) (standing c.loop-i.tyenv c.loop-i.work) (standing c.translate_pattern.new.tyenv c.translate_pattern.new.work) c.loop-i.invariant.0
          (parts_steps c.args.multi (S.pattern_views c.args.args.now) (map (λ t. t.0) c.args.tys.now) c.args.nesting) c.loop-i.parts.items c.args.tys.now ty v (same_default c.args.tys.now c.loop-i.i (record { 0 = 0 }) ty v) c.loop-i.invariant.2 c.in_ok-part.part c.in_ok-part.ensures.reads),
    )

pub translate_each-loop-subpat-init : goal.translate_each-loop-subpat-init
translate_each-loop-subpat-init t c = (
  keep_none c.args.tyenv.now c.requires,
  notes_nothing _ _ _ refl,
  none_read c.args.self.now (standing c.args.tyenv.now c.args.work.now) (each_steps c.args.multi (S.pattern_views c.args.subpats.now) c.args.expected_ty.0 c.args.nesting) c.in_ok-parts.parts.items c.in_ok-parts.ensures.items,
)

pub translate_each-loop-subpat-preserved : goal.translate_each-loop-subpat-preserved
translate_each-loop-subpat-preserved t c =
    let pushed = c.in_ok-push_part.ensures in (
      keep_on c.args.tyenv.now c.loop-subpat.tyenv c.translate_pattern.new.tyenv c.loop-subpat.invariant.0 c.translate_pattern.ensures.keeps,
      (
          let whole = patterns_positions (S.pattern_views c.args.subpats.now) in
          let part = pattern_positions (S.pattern_view c.subpat-item.result) in
          notes_parts (with_templates c.args.self.now whole) (with_templates c.args.self.now part) (with_templates c.args.self.now whole) c.args.work.now.errors.items c.loop-subpat.work.errors.items c.translate_pattern.new.work.errors.items
          (among_same (with_templates c.args.self.now whole)) (among_with c.args.self.now part whole (part_inside c.args.subpats.now c.loop-subpat.subpat-index c.subpat-item.result c.loop-subpat-test.true c.subpat-item.is)) c.loop-subpat.invariant.1 c.in_ok-part.ensures.places
          ),
      rw pushed
          (each_goes_on c.args.multi c.args.subpats.now c.args.nesting c.loop-subpat.subpat-index c.subpat-item.result c.loop-subpat-test.true c.subpat-item.is
          c.args.self.now (standing c.args.tyenv.now c.args.work.now) (standing c.loop-subpat.tyenv c.loop-subpat.work) (standing c.translate_pattern.new.tyenv c.translate_pattern.new.work) c.loop-subpat.invariant.0
          (each_steps c.args.multi (S.pattern_views c.args.subpats.now) c.args.expected_ty.0 c.args.nesting) c.loop-subpat.parts.items c.args.expected_ty.0 c.loop-subpat.invariant.2 c.in_ok-part.part c.in_ok-part.ensures.reads),
    )

pub translate_args-returns-in_err-part-clause-places : goal.translate_args-returns-in_err-part-clause-places
translate_args-returns-in_err-part-clause-places t c =
    let w : c.loop-i.i < length c.args.args.now = search rules in
    let whole = patterns_positions (S.pattern_views c.args.args.now) in
    let part = pattern_positions (S.pattern_view c.index-args-i.result) in
    rw (stop_is c.from_residual-in_err-part.result c.in_err-part.field-0.0 c.from_residual-in_err-part.ensures)
    (stop_step (with_templates c.args.self.now whole) (with_templates c.args.self.now part) (with_templates c.args.self.now whole) c.args.work.now.errors.items c.loop-i.work.errors.items c.translate_pattern.new.work.errors.items c.in_err-part.field-0.0
    (among_same (with_templates c.args.self.now whole)) (among_with c.args.self.now part whole (part_inside c.args.args.now c.loop-i.i c.index-args-i.result w c.index-args-i.is)) c.loop-i.invariant.1 c.in_err-part.ensures.places)

pub translate_args-returns-clause-places : goal.translate_args-returns-clause-places
translate_args-returns-clause-places t c = c.loop-i.invariant.1

pub translate_each-returns-in_err-part-clause-places : goal.translate_each-returns-in_err-part-clause-places
translate_each-returns-in_err-part-clause-places t c =
    let whole = patterns_positions (S.pattern_views c.args.subpats.now) in
    let part = pattern_positions (S.pattern_view c.subpat-item.result) in
    rw (stop_is c.from_residual-in_err-part.result c.in_err-part.field-0.0 c.from_residual-in_err-part.ensures)
    (stop_step (with_templates c.args.self.now whole) (with_templates c.args.self.now part) (with_templates c.args.self.now whole) c.args.work.now.errors.items c.loop-subpat.work.errors.items c.translate_pattern.new.work.errors.items c.in_err-part.field-0.0
    (among_same (with_templates c.args.self.now whole)) (among_with c.args.self.now part whole (part_inside c.args.subpats.now c.loop-subpat.subpat-index c.subpat-item.result c.loop-subpat-test.true c.subpat-item.is)) c.loop-subpat.invariant.1 c.in_err-part.ensures.places)

pub translate_each-returns-clause-places : goal.translate_each-returns-clause-places
translate_each-returns-clause-places t c = c.loop-subpat.invariant.1

pub translate_pattern-returns-in-Var-clause-places : goal.translate_pattern-returns-in-Var-clause-places
translate_pattern-returns-in-Var-clause-places t c =
    rw c.in-Var.is (stays_head c.args.self.now (S.position c.in-Var.pos) ((S.name_view c.in-Var.var).at ∷ []) c.args.work.now.errors.items c.translate_var.new.work.errors.items c.translate_var.result c.translate_var.ensures.places)

pub translate_pattern-returns-in-ConstBool-clause-places : goal.translate_pattern-returns-in-ConstBool-clause-places
translate_pattern-returns-in-ConstBool-clause-places t c =
    rw c.in-ConstBool.is (stays_head c.args.self.now (S.position c.in-ConstBool.pos) [] c.args.work.now.errors.items c.translate_bool.new.work.errors.items c.translate_bool.result c.translate_bool.ensures.places)

pub translate_pattern-returns-in-ConstInt-clause-places : goal.translate_pattern-returns-in-ConstInt-clause-places
translate_pattern-returns-in-ConstInt-clause-places t c =
    rw c.in-ConstInt.is (stays_head c.args.self.now (S.position c.in-ConstInt.pos) [] c.args.work.now.errors.items c.translate_int.new.work.errors.items c.translate_int.result c.translate_int.ensures.places)

pub translate_pattern-returns-in-ConstPrim-clause-places : goal.translate_pattern-returns-in-ConstPrim-clause-places
translate_pattern-returns-in-ConstPrim-clause-places t c =
    rw c.in-ConstPrim.is (stays_head c.args.self.now (S.position c.in-ConstPrim.pos) ((S.name_view c.in-ConstPrim.val).at ∷ []) c.args.work.now.errors.items c.translate_prim.new.work.errors.items c.translate_prim.result c.translate_prim.ensures.places)

pub translate_pattern-returns-in-MacroArg-clause-places : goal.translate_pattern-returns-in-MacroArg-clause-places
translate_pattern-returns-in-MacroArg-clause-places t c =
    rw c.in-MacroArg.is (stays_head c.args.self.now (S.position c.in-MacroArg.pos) [] c.args.work.now.errors.items c.refuse_macro_arg.new.work.errors.items c.refuse_macro_arg.result c.refuse_macro_arg.ensures.places)

pub translate_pattern-returns-in-Wildcard-clause-places : goal.translate_pattern-returns-in-Wildcard-clause-places
translate_pattern-returns-in-Wildcard-clause-places t c = notes_nothing _ _ _ refl

pub translate_pattern-returns-in_err-made-in-BindPattern-clause-places : goal.translate_pattern-returns-in_err-made-in-BindPattern-clause-places
translate_pattern-returns-in_err-made-in-BindPattern-clause-places t c =
    let name = S.name_view c.in-BindPattern.var in
    let of = S.pattern_view c.deref.result.now in
    let at = S.position c.in-BindPattern.pos in
    let inside : OccurAmong (with_templates c.args.self.now (pattern_positions of)) (with_templates c.args.self.now (pattern_positions (bind_pattern name of at))) = among_with c.args.self.now (pattern_positions of) (pattern_positions (bind_pattern name of at)) (bind_inside name of at) in
    rw (stop_is c.from_residual.result c.in_err-made-in-BindPattern.field-0.0 c.from_residual.ensures, seen_bind c.args.pat.now c.in-BindPattern.var c.in-BindPattern.subpat c.in-BindPattern.pos c.deref.result.now c.in-BindPattern.is c.deref.ensures)
    (stop_among (with_templates c.args.self.now (pattern_positions of)) (with_templates c.args.self.now (pattern_positions (bind_pattern name of at))) c.args.work.now.errors.items c.translate_pattern.new.work.errors.items c.in_err-made-in-BindPattern.field-0.0 inside c.in_err-made-in-BindPattern.ensures.places)

pub translate_pattern-returns-in_default-clause-places : goal.translate_pattern-returns-in_default-clause-places
translate_pattern-returns-in_default-clause-places t c =
    let name = S.name_view c.in-BindPattern.var in
    let of = S.pattern_view c.deref.result.now in
    let at = S.position c.in-BindPattern.pos in
    let inside : OccurAmong (with_templates c.args.self.now (pattern_positions of)) (with_templates c.args.self.now (pattern_positions (bind_pattern name of at))) = among_with c.args.self.now (pattern_positions of) (pattern_positions (bind_pattern name of at)) (bind_inside name of at) in
    rw (seen_bind c.args.pat.now c.in-BindPattern.var c.in-BindPattern.subpat c.in-BindPattern.pos c.deref.result.now c.in-BindPattern.is c.deref.ensures)
    (notes_among (with_templates c.args.self.now (pattern_positions of)) (with_templates c.args.self.now (pattern_positions (bind_pattern name of at))) c.args.work.now.errors.items c.translate_pattern.new.work.errors.items inside c.in_ok-made-in-BindPattern.ensures.places)

pub translate_pattern-returns-in-Some-clause-places : goal.translate_pattern-returns-in-Some-clause-places
translate_pattern-returns-in-Some-clause-places t c =
    let name = S.name_view c.in-BindPattern.var in
    let of = S.pattern_view c.deref.result.now in
    let at = S.position c.in-BindPattern.pos in
    let inside : OccurAmong (with_templates c.args.self.now (pattern_positions of)) (with_templates c.args.self.now (pattern_positions (bind_pattern name of at))) = among_with c.args.self.now (pattern_positions of) (pattern_positions (bind_pattern name of at)) (bind_inside name of at) in
    rw (seen_bind c.args.pat.now c.in-BindPattern.var c.in-BindPattern.subpat c.in-BindPattern.pos c.deref.result.now c.in-BindPattern.is c.deref.ensures)
    (stays_step (with_templates c.args.self.now (pattern_positions of)) (at ∷ []) (with_templates c.args.self.now (pattern_positions (bind_pattern name of at))) c.args.work.now.errors.items c.translate_pattern.new.work.errors.items c.bind_around.new.work.errors.items c.bind_around.result
    inside (among_here c.args.self.now (at ∷ []) (pattern_positions (bind_pattern name of at)) (among_first at (name.at ∷ pattern_positions of))) c.in_ok-made-in-BindPattern.ensures.places c.bind_around.ensures.places)

pub translate_pattern-returns-in_err-use_in_pattern-in-Term-clause-places : goal.translate_pattern-returns-in_err-use_in_pattern-in-Term-clause-places
translate_pattern-returns-in_err-use_in_pattern-in-Term-clause-places t c =
    let name = S.name_view c.in-Term.sym in
    let args = S.pattern_views c.deref-in-Term.result.now in
    let at = S.position c.in-Term.pos in
    let whole : List Position = pattern_positions (term_pattern name args at) in
    let all = with_templates c.args.self.now whole in
    let here : OccurAmong (at ∷ []) all = among_here c.args.self.now (at ∷ []) whole (among_first at (name.at ∷ patterns_positions args)) in
    rw (stop_is c.from_residual-in_err-use_in_pattern-in-Term.result c.in_err-use_in_pattern-in-Term.field-0.0 c.from_residual-in_err-use_in_pattern-in-Term.ensures, seen_term c.args.pat.now c.in-Term.sym c.in-Term.args c.in-Term.pos c.deref-in-Term.result.now c.in-Term.is c.deref-in-Term.ensures.value)
    (stop_among (at ∷ []) all c.args.work.now.errors.items c.use_in_pattern.new.work.errors.items c.in_err-use_in_pattern-in-Term.field-0.0 here c.in_err-use_in_pattern-in-Term.ensures.places)

pub translate_pattern-returns-in-Wrong-clause-places : goal.translate_pattern-returns-in-Wrong-clause-places
translate_pattern-returns-in-Wrong-clause-places t c =
    let name = S.name_view c.in-Term.sym in
    let args = S.pattern_views c.deref-in-Term.result.now in
    let at = S.position c.in-Term.pos in
    let whole : List Position = pattern_positions (term_pattern name args at) in
    let all = with_templates c.args.self.now whole in
    let here : OccurAmong (at ∷ []) all = among_here c.args.self.now (at ∷ []) whole (among_first at (name.at ∷ patterns_positions args)) in
    rw (seen_term c.args.pat.now c.in-Term.sym c.in-Term.args c.in-Term.pos c.deref-in-Term.result.now c.in-Term.is c.deref-in-Term.ensures.value) (notes_among (at ∷ []) all c.args.work.now.errors.items c.use_in_pattern.new.work.errors.items here c.in_ok-use_in_pattern-in-Term.ensures.places)

pub translate_pattern-returns-in-Expansion-clause-places : goal.translate_pattern-returns-in-Expansion-clause-places
translate_pattern-returns-in-Expansion-clause-places t c =
    let name = S.name_view c.in-Term.sym in
    let args = S.pattern_views c.deref-in-Term.result.now in
    let at = S.position c.in-Term.pos in
    let whole : List Position = pattern_positions (term_pattern name args at) in
    let all = with_templates c.args.self.now whole in
    let here : OccurAmong (at ∷ []) all = among_here c.args.self.now (at ∷ []) whole (among_first at (name.at ∷ patterns_positions args)) in
    let made = pattern_positions (S.pattern_view c.in-Expansion.made) in
    let inside : OccurAmong made all = rw (seen_term c.args.pat.now c.in-Term.sym c.in-Term.args c.in-Term.pos c.deref-in-Term.result.now c.in-Term.is c.deref-in-Term.ensures.value) at (rw c.in-Expansion.is at c.in_ok-use_in_pattern-in-Term.ensures.among) in
    rw (seen_term c.args.pat.now c.in-Term.sym c.in-Term.args c.in-Term.pos c.deref-in-Term.result.now c.in-Term.is c.deref-in-Term.ensures.value)
    (stays_step (at ∷ []) (with_templates c.args.self.now made) all c.args.work.now.errors.items c.use_in_pattern.new.work.errors.items c.translate_pattern-in-Expansion.new.work.errors.items c.translate_pattern-in-Expansion.result
    here (among_made c.args.self.now made whole inside) c.in_ok-use_in_pattern-in-Term.ensures.places c.translate_pattern-in-Expansion.ensures.places)

pub translate_pattern-returns-in_err-parts-in-Parts-clause-places : goal.translate_pattern-returns-in_err-parts-in-Parts-clause-places
translate_pattern-returns-in_err-parts-in-Parts-clause-places t c =
    let name = S.name_view c.in-Term.sym in
    let args = S.pattern_views c.deref-in-Term.result.now in
    let at = S.position c.in-Term.pos in
    let whole : List Position = pattern_positions (term_pattern name args at) in
    let all = with_templates c.args.self.now whole in
    let here : OccurAmong (at ∷ []) all = among_here c.args.self.now (at ∷ []) whole (among_first at (name.at ∷ patterns_positions args)) in
    let same : c.deref-in-Parts.result.now ≡ c.deref-in-Term.result.now = c.deref-in-Parts.ensures.value ∙ sym c.deref-in-Term.ensures.value in
    let parts = with_templates c.args.self.now (patterns_positions args) in
    let inside : OccurAmong parts all = among_with c.args.self.now (patterns_positions args) whole (term_inside name args at) in
    let placed = rw same at c.in_err-parts-in-Parts.ensures.places in
    rw (stop_is c.from_residual-in_err-parts-in-Parts.result c.in_err-parts-in-Parts.field-0.0 c.from_residual-in_err-parts-in-Parts.ensures, seen_term c.args.pat.now c.in-Term.sym c.in-Term.args c.in-Term.pos c.deref-in-Term.result.now c.in-Term.is c.deref-in-Term.ensures.value)
    (stop_step (at ∷ []) parts all c.args.work.now.errors.items c.use_in_pattern.new.work.errors.items c.translate_args.new.work.errors.items c.in_err-parts-in-Parts.field-0.0 here inside c.in_ok-use_in_pattern-in-Term.ensures.places placed)

pub translate_pattern-returns-in_ok-parts-in-Parts-clause-places : goal.translate_pattern-returns-in_ok-parts-in-Parts-clause-places
translate_pattern-returns-in_ok-parts-in-Parts-clause-places t c =
    let name = S.name_view c.in-Term.sym in
    let args = S.pattern_views c.deref-in-Term.result.now in
    let at = S.position c.in-Term.pos in
    let whole : List Position = pattern_positions (term_pattern name args at) in
    let all = with_templates c.args.self.now whole in
    let here : OccurAmong (at ∷ []) all = among_here c.args.self.now (at ∷ []) whole (among_first at (name.at ∷ patterns_positions args)) in
    let same : c.deref-in-Parts.result.now ≡ c.deref-in-Term.result.now = c.deref-in-Parts.ensures.value ∙ sym c.deref-in-Term.ensures.value in
    let parts = with_templates c.args.self.now (patterns_positions args) in
    let inside : OccurAmong parts all = among_with c.args.self.now (patterns_positions args) whole (term_inside name args at) in
    let placed = rw same at c.in_ok-parts-in-Parts.ensures.places in
    rw (seen_term c.args.pat.now c.in-Term.sym c.in-Term.args c.in-Term.pos c.deref-in-Term.result.now c.in-Term.is c.deref-in-Term.ensures.value)
    (notes_parts (at ∷ []) parts all c.args.work.now.errors.items c.use_in_pattern.new.work.errors.items c.translate_args.new.work.errors.items here inside c.in_ok-use_in_pattern-in-Term.ensures.places placed)

pub translate_pattern-returns-in_err-parts-in-And-clause-places : goal.translate_pattern-returns-in_err-parts-in-And-clause-places
translate_pattern-returns-in_err-parts-in-And-clause-places t c =
    let parts = S.pattern_views c.deref-in-And.result.now in
    let at = S.position c.in-And.pos in
    let inside : OccurAmong (with_templates c.args.self.now (patterns_positions parts)) (with_templates c.args.self.now (pattern_positions (and_pattern parts at))) = among_with c.args.self.now (patterns_positions parts) (pattern_positions (and_pattern parts at)) (and_inside parts at) in
    rw (stop_is c.from_residual-in_err-parts-in-And.result c.in_err-parts-in-And.field-0.0 c.from_residual-in_err-parts-in-And.ensures, seen_and c.args.pat.now c.in-And.subpats c.in-And.pos c.deref-in-And.result.now c.in-And.is c.deref-in-And.ensures.value)
    (stop_among (with_templates c.args.self.now (patterns_positions parts)) (with_templates c.args.self.now (pattern_positions (and_pattern parts at))) c.args.work.now.errors.items c.translate_each.new.work.errors.items c.in_err-parts-in-And.field-0.0 inside c.in_err-parts-in-And.ensures.places)

pub translate_pattern-returns-in_ok-parts-in-And-clause-places : goal.translate_pattern-returns-in_ok-parts-in-And-clause-places
translate_pattern-returns-in_ok-parts-in-And-clause-places t c =
    let parts = S.pattern_views c.deref-in-And.result.now in
    let at = S.position c.in-And.pos in
    let inside : OccurAmong (with_templates c.args.self.now (patterns_positions parts)) (with_templates c.args.self.now (pattern_positions (and_pattern parts at))) = among_with c.args.self.now (patterns_positions parts) (pattern_positions (and_pattern parts at)) (and_inside parts at) in
    rw (seen_and c.args.pat.now c.in-And.subpats c.in-And.pos c.deref-in-And.result.now c.in-And.is c.deref-in-And.ensures.value) (notes_among (with_templates c.args.self.now (patterns_positions parts)) (with_templates c.args.self.now (pattern_positions (and_pattern parts at))) c.args.work.now.errors.items c.translate_each.new.work.errors.items inside c.in_ok-parts-in-And.ensures.places)

pub translate_pattern-returns-in-Var-clause-reads : goal.translate_pattern-returns-in-Var-clause-reads
translate_pattern-returns-in-Var-clause-reads t c = rw c.in-Var.is c.translate_var.ensures.reads

pub translate_pattern-returns-in-ConstBool-clause-reads : goal.translate_pattern-returns-in-ConstBool-clause-reads
translate_pattern-returns-in-ConstBool-clause-reads t c = rw c.in-ConstBool.is c.translate_bool.ensures.reads

pub translate_pattern-returns-in-ConstInt-clause-reads : goal.translate_pattern-returns-in-ConstInt-clause-reads
translate_pattern-returns-in-ConstInt-clause-reads t c = let fits : SFits w128 c.in-ConstInt.val = search rules in rw c.in-ConstInt.is (rw (to_z-of_z w128 c.in-ConstInt.val fits) at c.translate_int.ensures.reads)

pub translate_pattern-returns-in-ConstPrim-clause-reads : goal.translate_pattern-returns-in-ConstPrim-clause-reads
translate_pattern-returns-in-ConstPrim-clause-reads t c = rw c.in-ConstPrim.is c.translate_prim.ensures.reads

pub translate_pattern-returns-in-MacroArg-clause-reads : goal.translate_pattern-returns-in-MacroArg-clause-reads
translate_pattern-returns-in-MacroArg-clause-reads t c = rw c.in-MacroArg.is c.refuse_macro_arg.ensures.reads

pub translate_pattern-returns-in-Wildcard-clause-reads : goal.translate_pattern-returns-in-Wildcard-clause-reads
translate_pattern-returns-in-Wildcard-clause-reads t c = rw c.in-Wildcard.is (any_taken c.args.self.now (standing c.args.tyenv.now c.args.work.now) (S.position c.in-Wildcard.pos) c.args.expected_ty.0)

pub translate_pattern-returns-in_err-made-in-BindPattern-clause-reads : goal.translate_pattern-returns-in_err-made-in-BindPattern-clause-reads
translate_pattern-returns-in_err-made-in-BindPattern-clause-reads t c =
    rw (stop_is c.from_residual.result c.in_err-made-in-BindPattern.field-0.0 c.from_residual.ensures, seen_bind c.args.pat.now c.in-BindPattern.var c.in-BindPattern.subpat c.in-BindPattern.pos c.deref.result.now c.in-BindPattern.is c.deref.ensures)
    (around_stops c.args.self.now (standing c.args.tyenv.now c.args.work.now) (standing c.translate_pattern.new.tyenv c.translate_pattern.new.work) c.args.multi (S.name_view c.in-BindPattern.var) (S.pattern_view c.deref.result.now) (S.position c.in-BindPattern.pos) c.args.expected_ty.0 c.args.nesting
    c.in_err-made-in-BindPattern.field-0.0 c.in_err-made-in-BindPattern.ensures.reads)

pub translate_pattern-returns-in_default-clause-reads : goal.translate_pattern-returns-in_default-clause-reads
translate_pattern-returns-in_default-clause-reads t c =
    rw (seen_bind c.args.pat.now c.in-BindPattern.var c.in-BindPattern.subpat c.in-BindPattern.pos c.deref.result.now c.in-BindPattern.is c.deref.ensures)
    (around_nothing c.args.self.now (standing c.args.tyenv.now c.args.work.now) (standing c.translate_pattern.new.tyenv c.translate_pattern.new.work) c.args.multi (S.name_view c.in-BindPattern.var) (S.pattern_view c.deref.result.now) (S.position c.in-BindPattern.pos) c.args.expected_ty.0 c.args.nesting
    (rw c.in_default.is at c.in_ok-made-in-BindPattern.ensures.reads))

pub translate_pattern-returns-in-Some-clause-reads : goal.translate_pattern-returns-in-Some-clause-reads
translate_pattern-returns-in-Some-clause-reads t c =
    rw (seen_bind c.args.pat.now c.in-BindPattern.var c.in-BindPattern.subpat c.in-BindPattern.pos c.deref.result.now c.in-BindPattern.is c.deref.ensures)
    (around_takes c.args.self.now (standing c.args.tyenv.now c.args.work.now) (standing c.translate_pattern.new.tyenv c.translate_pattern.new.work) c.args.multi (S.name_view c.in-BindPattern.var) (S.pattern_view c.deref.result.now) (S.position c.in-BindPattern.pos) c.args.expected_ty.0 c.args.nesting
    (standing c.bind_around.new.tyenv c.bind_around.new.work) c.translate_pattern.ensures.keeps (pattern_view c.in-Some.of) (rw c.in-Some.is at c.in_ok-made-in-BindPattern.ensures.reads) c.bind_around.result c.bind_around.ensures.reads)

pub translate_pattern-returns-in_err-use_in_pattern-in-Term-clause-reads : goal.translate_pattern-returns-in_err-use_in_pattern-in-Term-clause-reads
translate_pattern-returns-in_err-use_in_pattern-in-Term-clause-reads t c =
    rw (stop_is c.from_residual-in_err-use_in_pattern-in-Term.result c.in_err-use_in_pattern-in-Term.field-0.0 c.from_residual-in_err-use_in_pattern-in-Term.ensures) c.in_err-use_in_pattern-in-Term.ensures.reads

pub translate_pattern-returns-in-Wrong-clause-reads : goal.translate_pattern-returns-in-Wrong-clause-reads
translate_pattern-returns-in-Wrong-clause-reads t c = rw c.in-Wrong.is at c.in_ok-use_in_pattern-in-Term.ensures.reads

pub translate_pattern-returns-in-Expansion-clause-reads : goal.translate_pattern-returns-in-Expansion-clause-reads
translate_pattern-returns-in-Expansion-clause-reads t c =
    let on = rw c.in-Expansion.is at c.in_ok-use_in_pattern-in-Term.ensures.reads in
    expansion_done c.args.self.now (standing c.args.tyenv.now c.args.work.now) (standing c.args.tyenv.now c.use_in_pattern.new.work) _ refl
    (pattern_steps c.args.multi (S.pattern_view c.args.pat.now) c.args.expected_ty.0 c.args.nesting) (pattern_steps c.args.multi (S.pattern_view c.in-Expansion.made) c.args.expected_ty.0 c.in-Expansion.left) (option_map pattern_view) on _ c.translate_pattern-in-Expansion.ensures.reads

pub translate_pattern-returns-in_err-parts-in-Parts-clause-reads : goal.translate_pattern-returns-in_err-parts-in-Parts-clause-reads
translate_pattern-returns-in_err-parts-in-Parts-clause-reads t c =
    let on = rw c.in-Parts.is at c.in_ok-use_in_pattern-in-Term.ensures.reads in
    let args : c.deref-in-Parts.result.now ≡ c.deref-in-Term.result.now = c.deref-in-Parts.ensures.value ∙ sym c.deref-in-Term.ensures.value in
    let made = rw (args, c.as_slice-tys.ensures.value) at c.in_err-parts-in-Parts.ensures.reads in
    rw (stop_is c.from_residual-in_err-parts-in-Parts.result c.in_err-parts-in-Parts.field-0.0 c.from_residual-in_err-parts-in-Parts.ensures)
    (rest_stops c.args.self.now (standing c.args.tyenv.now c.args.work.now) (standing c.args.tyenv.now c.use_in_pattern.new.work) (standing c.translate_args.new.tyenv c.translate_args.new.work) refl
    (pattern_steps c.args.multi (S.pattern_view c.args.pat.now) c.args.expected_ty.0 c.args.nesting) (parts_steps c.args.multi (S.pattern_views c.deref-in-Term.result.now) (term_view c.in-Parts.term.now).arg_tys c.args.nesting) (made_end (match_term (term_view c.in-Parts.term.now).ret_ty (term_view c.in-Parts.term.now).id)) on
    (λ l. refl) c.in_err-parts-in-Parts.field-0.0 made)

pub translate_pattern-returns-in_ok-parts-in-Parts-clause-reads : goal.translate_pattern-returns-in_ok-parts-in-Parts-clause-reads
translate_pattern-returns-in_ok-parts-in-Parts-clause-reads t c =
    let on = rw c.in-Parts.is at c.in_ok-use_in_pattern-in-Term.ensures.reads in
    let args : c.deref-in-Parts.result.now ≡ c.deref-in-Term.result.now = c.deref-in-Parts.ensures.value ∙ sym c.deref-in-Term.ensures.value in
    let made = rw (args, c.as_slice-tys.ensures.value) at c.in_ok-parts-in-Parts.ensures.reads in
    rw (row_patterns-hidden c.in_ok-parts-in-Parts.parts)
    (rest_ends c.args.self.now (standing c.args.tyenv.now c.args.work.now) (standing c.args.tyenv.now c.use_in_pattern.new.work) (standing c.translate_args.new.tyenv c.translate_args.new.work) refl
    (pattern_steps c.args.multi (S.pattern_view c.args.pat.now) c.args.expected_ty.0 c.args.nesting) (parts_steps c.args.multi (S.pattern_views c.deref-in-Term.result.now) (term_view c.in-Parts.term.now).arg_tys c.args.nesting) (made_end (match_term (term_view c.in-Parts.term.now).ret_ty (term_view c.in-Parts.term.now).id)) on
    (Ok (Some (pattern_parts (pattern_views c.in_ok-parts-in-Parts.parts.items)))) made)

pub translate_pattern-returns-in_err-parts-in-And-clause-reads : goal.translate_pattern-returns-in_err-parts-in-And-clause-reads
translate_pattern-returns-in_err-parts-in-And-clause-reads t c =
    rw (stop_is c.from_residual-in_err-parts-in-And.result c.in_err-parts-in-And.field-0.0 c.from_residual-in_err-parts-in-And.ensures, seen_and c.args.pat.now c.in-And.subpats c.in-And.pos c.deref-in-And.result.now c.in-And.is c.deref-in-And.ensures.value)
    (made_stopped (match_and c.args.expected_ty.0) c.args.self.now (standing c.args.tyenv.now c.args.work.now) (standing c.translate_each.new.tyenv c.translate_each.new.work) (each_steps c.args.multi (S.pattern_views c.deref-in-And.result.now) c.args.expected_ty.0 c.args.nesting)
    c.in_err-parts-in-And.field-0.0 c.in_err-parts-in-And.ensures.reads)

pub translate_pattern-returns-in_ok-parts-in-And-clause-reads : goal.translate_pattern-returns-in_ok-parts-in-And-clause-reads
translate_pattern-returns-in_ok-parts-in-And-clause-reads t c =
    rw (row_patterns-hidden c.in_ok-parts-in-And.parts, seen_and c.args.pat.now c.in-And.subpats c.in-And.pos c.deref-in-And.result.now c.in-And.is c.deref-in-And.ensures.value)
    (made_ends (match_and c.args.expected_ty.0) c.args.self.now (standing c.args.tyenv.now c.args.work.now) (standing c.translate_each.new.tyenv c.translate_each.new.work) (each_steps c.args.multi (S.pattern_views c.deref-in-And.result.now) c.args.expected_ty.0 c.args.nesting)
    (Ok (Some (pattern_parts (pattern_views c.in_ok-parts-in-And.parts.items)))) c.in_ok-parts-in-And.ensures.reads)

pub translate_args-returns-in_err-part-clause-reads : goal.translate_args-returns-in_err-part-clause-reads
translate_args-returns-in_err-part-clause-reads t c =
    let w : c.loop-i.i < length c.args.args.now = search rules in
    let v : c.loop-i.i < length c.args.tys.now = search rules in
    let ty : TypeId = get_or c.args.tys.now c.loop-i.i (record { 0 = 0 }) in
    rw (stop_is c.from_residual-in_err-part.result c.in_err-part.field-0.0 c.from_residual-in_err-part.ensures)
    (arg_stops_all c.args.multi c.args.args.now c.args.nesting c.loop-i.i c.index-args-i.result w c.index-args-i.is
    c.args.self.now (standing c.args.tyenv.now c.args.work.now) (standing c.loop-i.tyenv c.loop-i.work) (standing c.translate_pattern.new.tyenv c.translate_pattern.new.work) c.loop-i.invariant.0
    (parts_steps c.args.multi (S.pattern_views c.args.args.now) (map (λ t. t.0) c.args.tys.now) c.args.nesting) c.loop-i.parts.items c.args.tys.now ty v (same_default c.args.tys.now c.loop-i.i (record { 0 = 0 }) ty v) c.loop-i.invariant.2 c.in_err-part.field-0.0 c.in_err-part.ensures.reads)

pub translate_args-returns-clause-reads : goal.translate_args-returns-clause-reads
translate_args-returns-clause-reads t c =
    let count : min (length c.args.args.now) (length c.args.tys.now) ≤ c.loop-i.i = search rules in
    all_read c.args.self.now (standing c.args.tyenv.now c.args.work.now) (standing c.loop-i.tyenv c.loop-i.work) (parts_steps c.args.multi (S.pattern_views c.args.args.now) (map (λ t. t.0) c.args.tys.now) c.args.nesting)
    (args_from c.args.multi c.args.args.now c.args.tys.now c.args.nesting c.loop-i.i) c.loop-i.parts.items (args_read c.args.multi c.args.args.now c.args.tys.now c.args.nesting c.loop-i.i count) c.loop-i.invariant.2

pub translate_each-returns-in_err-part-clause-reads : goal.translate_each-returns-in_err-part-clause-reads
translate_each-returns-in_err-part-clause-reads t c =
    rw (stop_is c.from_residual-in_err-part.result c.in_err-part.field-0.0 c.from_residual-in_err-part.ensures)
    (each_stops_all c.args.multi c.args.subpats.now c.args.nesting c.loop-subpat.subpat-index c.subpat-item.result c.loop-subpat-test.true c.subpat-item.is
    c.args.self.now (standing c.args.tyenv.now c.args.work.now) (standing c.loop-subpat.tyenv c.loop-subpat.work) (standing c.translate_pattern.new.tyenv c.translate_pattern.new.work) c.loop-subpat.invariant.0
    (each_steps c.args.multi (S.pattern_views c.args.subpats.now) c.args.expected_ty.0 c.args.nesting) c.loop-subpat.parts.items c.args.expected_ty.0 c.loop-subpat.invariant.2 c.in_err-part.field-0.0 c.in_err-part.ensures.reads)

pub translate_each-returns-clause-reads : goal.translate_each-returns-clause-reads
translate_each-returns-clause-reads t c =
    all_read c.args.self.now (standing c.args.tyenv.now c.args.work.now) (standing c.loop-subpat.tyenv c.loop-subpat.work) (each_steps c.args.multi (S.pattern_views c.args.subpats.now) c.args.expected_ty.0 c.args.nesting)
    (each_from c.args.multi c.args.subpats.now c.args.expected_ty.0 c.args.nesting c.loop-subpat.subpat-index) c.loop-subpat.parts.items (each_read c.args.multi c.args.subpats.now c.args.expected_ty.0 c.args.nesting c.loop-subpat.subpat-index c.loop-subpat-test.false) c.loop-subpat.invariant.2

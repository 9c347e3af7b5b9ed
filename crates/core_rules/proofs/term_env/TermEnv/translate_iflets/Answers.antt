use Rattle.core_syntax.specs.SyntaxViews as S
use Rattle.core_terms.specs.TermViews.{flags_view}
use Rattle.core_rules.specs.ShownSettings.{standing}
use Rattle.core_rules.proofs.Readings.{stop_is, keep_none, keep_on}
use Rattle.std.proofs.Common.{map, refl}
use Rattle.std.specs.List.{flat_map}
use Rattle.core_syntax.specs.Positions.{OccurAmong, iflet_positions}
use Rattle.core_syntax.proofs.Positioned.{among_same, notes_nothing, notes_parts}
use Rattle.core_rules.specs.RulePositions.{with_templates}
use Rattle.core_rules.proofs.ErrorPositions.{among_with, stop_step}
use Rattle.core_rules.proofs.PartPlaces.{each_inside}
use Rattle.core_rules.specs.RuleTaking.{iflets_steps}
use Rattle.core_rules.proofs.SidesTaken.{no_iflet_read, all_iflets_read, iflet_goes_on, iflet_stops_all}
use Rattle.core_rules.proofs.term_env.TermEnv.translate_iflets.Goals as goal

pub loop-iflet-init : goal.loop-iflet-init
loop-iflet-init c = (
  keep_none c.args.tyenv.now c.requires,
  notes_nothing _ _ _ refl,
  no_iflet_read c.args.self.now (standing c.args.tyenv.now c.args.work.now) (iflets_steps (map S.iflet_view c.args.iflets.now) (flags_view c.args.flags) c.args.nesting) c.new-made.result.items c.new-made.ensures.items,
)

pub loop-iflet-preserved : goal.loop-iflet-preserved
loop-iflet-preserved c =
    let pushed = c.in_ok-push_iflet.ensures in (
      keep_on c.args.tyenv.now c.loop-iflet.tyenv c.translate_iflet.new.tyenv c.loop-iflet.invariant.0 c.translate_iflet.ensures.keeps,
      (
          let env = c.args.self.now in
          let part = iflet_positions (S.iflet_view c.iflet-item.result) in
          let parts = flat_map iflet_positions (map S.iflet_view c.args.iflets.now) in
          let inside : OccurAmong (with_templates env part) (with_templates env parts) = among_with env part parts (each_inside iflet_positions S.iflet_view c.args.iflets.now c.loop-iflet.iflet-index c.iflet-item.result c.loop-iflet-test.true c.iflet-item.is) in
          notes_parts (with_templates env parts) (with_templates env part) (with_templates env parts) c.args.work.now.errors.items c.loop-iflet.work.errors.items c.translate_iflet.new.work.errors.items (among_same (with_templates env parts)) inside c.loop-iflet.invariant.1 c.in_ok-one.ensures.places
          ),
      rw pushed
          (iflet_goes_on (flags_view c.args.flags) c.args.iflets.now c.args.nesting c.loop-iflet.iflet-index c.iflet-item.result c.loop-iflet-test.true c.iflet-item.is
          c.args.self.now (standing c.args.tyenv.now c.args.work.now) (standing c.loop-iflet.tyenv c.loop-iflet.work) (standing c.translate_iflet.new.tyenv c.translate_iflet.new.work) c.loop-iflet.invariant.0
          (iflets_steps (map S.iflet_view c.args.iflets.now) (flags_view c.args.flags) c.args.nesting) c.loop-iflet.made.items c.loop-iflet.invariant.2 c.in_ok-one.one c.in_ok-one.ensures.reads),
    )

pub returns-in_err-one-clause-places : goal.returns-in_err-one-clause-places
returns-in_err-one-clause-places c =
    let env = c.args.self.now in
    let part = iflet_positions (S.iflet_view c.iflet-item.result) in
    let parts = flat_map iflet_positions (map S.iflet_view c.args.iflets.now) in
    let inside : OccurAmong (with_templates env part) (with_templates env parts) = among_with env part parts (each_inside iflet_positions S.iflet_view c.args.iflets.now c.loop-iflet.iflet-index c.iflet-item.result c.loop-iflet-test.true c.iflet-item.is) in
    rw (stop_is c.from_residual.result c.in_err-one.field-0.0 c.from_residual.ensures)
    (stop_step (with_templates env parts) (with_templates env part) (with_templates env parts) c.args.work.now.errors.items c.loop-iflet.work.errors.items c.translate_iflet.new.work.errors.items c.in_err-one.field-0.0 (among_same (with_templates env parts)) inside c.loop-iflet.invariant.1 c.in_err-one.ensures.places)

pub returns-clause-places : goal.returns-clause-places
returns-clause-places c =
    c.loop-iflet.invariant.1

pub returns-in_err-one-clause-reads : goal.returns-in_err-one-clause-reads
returns-in_err-one-clause-reads c =
    rw (stop_is c.from_residual.result c.in_err-one.field-0.0 c.from_residual.ensures)
    (iflet_stops_all (flags_view c.args.flags) c.args.iflets.now c.args.nesting c.loop-iflet.iflet-index c.iflet-item.result c.loop-iflet-test.true c.iflet-item.is
    c.args.self.now (standing c.args.tyenv.now c.args.work.now) (standing c.loop-iflet.tyenv c.loop-iflet.work) (standing c.translate_iflet.new.tyenv c.translate_iflet.new.work) c.loop-iflet.invariant.0
    (iflets_steps (map S.iflet_view c.args.iflets.now) (flags_view c.args.flags) c.args.nesting) c.loop-iflet.made.items c.loop-iflet.invariant.2
    c.in_err-one.field-0.0 c.in_err-one.ensures.reads)

pub returns-clause-reads : goal.returns-clause-reads
returns-clause-reads c =
    all_iflets_read c.args.self.now (standing c.args.tyenv.now c.args.work.now) (standing c.loop-iflet.tyenv c.loop-iflet.work) (flags_view c.args.flags) c.args.iflets.now c.args.nesting c.loop-iflet.iflet-index
    (iflets_steps (map S.iflet_view c.args.iflets.now) (flags_view c.args.flags) c.args.nesting) c.loop-iflet.made.items c.loop-iflet-test.false c.loop-iflet.invariant.2

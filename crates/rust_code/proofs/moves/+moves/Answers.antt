use Rattle.std.proofs.Common.{[], ◌≡◌, ◌+◌, ◌++◌, ◌∷◌, ◌∙◌, ◌||◌, ◌-◌, length, take, drop, rules, refl, ap}
use Rattle.model.specs.trees.Places.{is_in}
use Rattle.model_code.specs.Code.{no_code_arm, no_statement, Place}
use Rattle.model_code.specs.MovedOnce.{block_reads, movable_after, read_no_more, unlooked}
use Rattle.model_code.specs.Saving.{saved, saved_arms}
use Rattle.rust_code.specs.CodeViews.{arms_before, before, place_view, statement_view}
use Rattle.rust_code.specs.Spots.{left_reads, HasSame}
use Rattle.rust_code.proofs.MovedBlocks.{arms_more, block_done, block_more, left}
use Rattle.rust_code.proofs.MovedStatements.{around_body, bind_moved, bind_some_stays, equal_moved, give_moved, labelled_moved, loop_moved, match_moved, no_way_stays, unless_equal_stays, unless_let_stays}
use Rattle.rust_code.proofs.MovedUses.{slice_behind}
use Rattle.rust_code.proofs.MovedVariables.{same_unlooked}
use Rattle.rust_code.proofs.moves.+moves.Goals as goal

-- blocks
pub block_with_moves-loop-statement-init : goal.block_with_moves-loop-statement-init
block_with_moves-loop-statement-init t c = record {
  number = refl;
  made = λ types movable modes same. (movable, (same, ap (λ l. before l (left types (left_reads c.args.around.now.after.now) movable c.args.statements.now)) c.new-out.ensures.items));
}

pub block_with_moves-loop-statement-preserved : goal.block_with_moves-loop-statement-preserved
block_with_moves-loop-statement-preserved t c = record {
  number = ap (λ k. k + 1) c.loop-statement.invariant.number;
  made = λ types movable modes same.
      let w = c.loop-statement.invariant.made types movable modes same in
      let here : HasSame c.deref.result.now w.0 = λ v. ap (is_in v) c.deref.ensures.value ∙ w.1.0 v in
      let ss = c.args.statements.now in
      let rest = take (length ss - (c.loop-statement.number + 1)) (drop (c.loop-statement.number + 1) ss) in
      let s = c.statement-item.result in (
        movable_after w.0 (statement_view s),
        (
          c.in_ok-inside.ensures w.0 w.1.0,
          block_more types (left_reads c.args.around.now.after.now) c.loop-statement.out.items c.push.new.self.items ss rest s c.in_ok-made.made c.loop-statement.statement-index w.0 _ (search rules)
              c.statement-item.is (slice_behind ss c.loop-statement.number c.loop-statement.statement-index c.loop-statement.invariant.number) c.in_ok-push.ensures.items (c.in_ok-made.ensures types w.0 modes here) w.1.1,
        ),
      );
}

pub block_with_moves-returns : goal.block_with_moves-returns
block_with_moves-returns t c = λ types movable modes same.
    let w = c.loop-statement.invariant.made types movable modes same in
    block_done types (left_reads c.args.around.now.after.now) c.loop-statement.out.items c.args.statements.now c.loop-statement.statement-index w.0 _ (search rules) w.1.1

-- statements
pub statement_with_moves-returns-in_ok-expr_with_moves-in-Bind : goal.statement_with_moves-returns-in_ok-expr_with_moves-in-Bind
statement_with_moves-returns-in_ok-expr_with_moves-in-Bind t c = λ types movable modes same.
    let m = c.in-Bind in
    bind_moved types movable c.args.spot.now c.args.statement.now m.site m.expr c.in_ok-expr_with_moves-in-Bind.field-0 m.is (c.in_ok-expr_with_moves-in-Bind.ensures types movable modes same)

pub statement_with_moves-returns-in-BindSome : goal.statement_with_moves-returns-in-BindSome
statement_with_moves-returns-in-BindSome t c = λ types movable modes same.
    let m = c.in-BindSome in
    bind_some_stays types movable c.args.spot.now c.args.statement.now m.site m.value m.is

pub statement_with_moves-returns-in-NoWay : goal.statement_with_moves-returns-in-NoWay
statement_with_moves-returns-in-NoWay t c = λ types movable modes same.
    no_way_stays types movable c.args.spot.now c.args.statement.now c.in-NoWay.is

pub statement_with_moves-returns-in_ok-made-in-MatchOn : goal.statement_with_moves-returns-in_ok-made-in-MatchOn
statement_with_moves-returns-in_ok-made-in-MatchOn t c = λ types movable modes same.
    let m = c.in-MatchOn in
    let q = place_view m.value.place in
    let left_is : (p : Place) → left_reads c.deref.result.now p ≡ around_body types movable c.args.spot.now c.args.statement.now p = λ p. ap (λ l. left_reads l p) c.deref.ensures.value ∙ c.in_ok-after-in-MatchOn.ensures p in
    let here : HasSame c.deref-in-MatchOn-2.result.now (unlooked movable q) =
    λ v. ap (is_in v) (c.deref-in-MatchOn-2.ensures.value ∙ c.in_ok-inside-in-MatchOn.ensures) ∙ same_unlooked c.args.spot.now.inside.now movable same q v in
    match_moved types movable c.args.spot.now c.args.statement.now m.value m.arms c.in_ok-made-in-MatchOn.made m.is
    (c.in_ok-made-in-MatchOn.ensures types (unlooked movable q) modes here
    ∙ (λ i. saved_arms types (unlooked movable q) (λ p. left_is p i) (arms_before (c.deref-in-MatchOn.ensures.value i) no_code_arm)))

pub statement_with_moves-returns-in_ok-made-in-IfEqual : goal.statement_with_moves-returns-in_ok-made-in-IfEqual
statement_with_moves-returns-in_ok-made-in-IfEqual t c = λ types movable modes same.
    let m = c.in-IfEqual in
    equal_moved types movable c.args.spot.now c.args.statement.now m.a m.b m.body c.in_ok-made-in-IfEqual.made m.is (c.in_ok-made-in-IfEqual.ensures types movable modes same)

pub statement_with_moves-returns-in_ok-made-in-ForEachOf : goal.statement_with_moves-returns-in_ok-made-in-ForEachOf
statement_with_moves-returns-in_ok-made-in-ForEachOf t c = λ types movable modes same.
    let m = c.in-ForEachOf in
    loop_moved types movable c.args.spot.now c.args.statement.now m.site m.from m.body c.in_ok-made-in-ForEachOf.made m.is (c.in_ok-made-in-ForEachOf.ensures types modes)

pub statement_with_moves-returns-in-Give : goal.statement_with_moves-returns-in-Give
statement_with_moves-returns-in-Give t c = λ types movable modes same.
    let m = c.in-Give in
    give_moved types movable c.args.spot.now c.args.statement.now m.pos m.value c.use_with_moves.result m.is (c.use_with_moves.ensures types movable modes same)

pub statement_with_moves-returns-in_ok-made-in-Labelled : goal.statement_with_moves-returns-in_ok-made-in-Labelled
statement_with_moves-returns-in_ok-made-in-Labelled t c = λ types movable modes same.
    let m = c.in-Labelled in
    labelled_moved types movable c.args.spot.now c.args.statement.now m.body c.in_ok-made-in-Labelled.made m.is (c.in_ok-made-in-Labelled.ensures types movable modes same)

pub statement_with_moves-returns-in_ok-from_slice-in-UnlessLet : goal.statement_with_moves-returns-in_ok-from_slice-in-UnlessLet
statement_with_moves-returns-in_ok-from_slice-in-UnlessLet t c = λ types movable modes same.
    let m = c.in-UnlessLet in
    unless_let_stays types movable c.args.spot.now c.args.statement.now m.value m.pattern m.fields c.in_ok-from_slice-in-UnlessLet.field-0 m.is (c.in_ok-from_slice-in-UnlessLet.ensures.items ∙ c.deref-in-UnlessLet.ensures.value)

pub statement_with_moves-returns-in-UnlessEqual : goal.statement_with_moves-returns-in-UnlessEqual
statement_with_moves-returns-in-UnlessEqual t c = λ types movable modes same.
    let m = c.in-UnlessEqual in
    unless_equal_stays types movable c.args.spot.now c.args.statement.now m.a m.b m.is

-- bodies
pub body_with_moves-returns : goal.body_with_moves-returns
body_with_moves-returns t c = λ types movable modes same.
    let left_is : (p : Place) → left_reads c.deref.result.now p ≡ (block_reads p (before c.args.spot.now.rest.now no_statement) || left_reads c.args.spot.now.after.now p) =
    λ p. ap (λ l. left_reads l p) c.deref.ensures.value ∙ c.in_ok-after.ensures p in
    c.in_ok-block_with_moves.ensures types movable modes (λ v. ap (is_in v) c.in_ok-inside.ensures.items ∙ same v)
    ∙ (λ i. saved types movable (λ p. left_is p i) (before (c.deref-2.ensures.value i) no_statement))

pub turn_with_moves-returns : goal.turn_with_moves-returns
turn_with_moves-returns t c = λ types modes.
    let each = c.args.site ∷ [] in
    c.in_ok-block_with_moves.ensures types each modes (λ v. ap (is_in v) (c.in_ok-inside.ensures ∙ ap (λ l. l ++ each) c.new.ensures.items))
    ∙ ap (λ l. saved types each read_no_more (before l no_statement)) c.deref.ensures.value

-- arms
pub arms_with_moves-loop-arm-preserved : goal.arms_with_moves-loop-arm-preserved
arms_with_moves-loop-arm-preserved t c = λ types movable modes same.
    arms_more types (left_reads c.args.around.now.after.now) movable c.loop-arm.out.items c.push.new.self.items c.args.arms.now c.arm-item.result c.in_ok-made.made c.loop-arm.arm-index _ (search rules) c.arm-item.is c.in_ok-push.ensures.items
    (c.in_ok-made.ensures types movable modes same) (c.loop-arm.invariant types movable modes same)

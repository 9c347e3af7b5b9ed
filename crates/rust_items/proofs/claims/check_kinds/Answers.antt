use Rattle.std.proofs.Common.{◌≡◌, ℕ, ap, subst, sym, ◌∙◌, length, take, arith, [], ◌∷◌}
use Rattle.std.specs.Prelude.{All}
use Rattle.std.proofs.lemmas.List.{take_all}
use Rattle.std.proofs.lemmas.List.Elements.{All-append}
use Rattle.rust_items.specs.Claims.{IsWellNamed}
use Rattle.rust_items.specs.ClaimViews.{kind_view, kind_views}
use Rattle.rust_items.proofs.HeldNames.{all_one}
use Rattle.rust_items.proofs.Turns.{taken_more, parted, err_is, tells_more}
use Rattle.rust_items.proofs.claims.check_kinds.Goals as goal

pub returns-in_err-check_kind-clause-wrong : goal.returns-in_err-check_kind-clause-wrong
returns-in_err-check_kind-clause-wrong c =
    let xs = c.args.kinds.now in let i = c.loop-kind.kind-index in let x = c.kind-item.result in
    rw (err_is c.from_residual.result c.in_err-check_kind.field-0.0 c.from_residual.ensures)
    (tells_more c.in_err-check_kind.field-0.0 _ _ c.in_err-check_kind.ensures.wrong
    (λ text h. record { before = kind_views (take i xs); kind = kind_view x; after = _; parts = parted kind_view xs i x c.loop-kind-test.true c.kind-item.is; good = c.loop-kind.invariant; tells = h }))

pub loop-kind-preserved : goal.loop-kind-preserved
loop-kind-preserved c =
    let xs = c.args.kinds.now in let i = c.loop-kind.kind-index in let x = c.kind-item.result in
    subst (All IsWellNamed) (sym (taken_more kind_view xs i x c.loop-kind-test.true c.kind-item.is))
    (All-append IsWellNamed _ _ c.loop-kind.invariant (all_one IsWellNamed (kind_view x) c.in_ok-check_kind.ensures.good))

pub returns-clause-good : goal.returns-clause-good
returns-clause-good c =
    let xs = c.args.kinds.now in
    subst (All IsWellNamed) (ap kind_views (take_all c.loop-kind.kind-index xs (omega (arith, c.loop-kind-test.false)))) c.loop-kind.invariant

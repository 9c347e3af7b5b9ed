use Rattle.std.proofs.Common.{◌+◌, sym, ap, ◌∙◌, subst, arith}
use Rattle.text_reader.specs.Views.{Fails}
use Rattle.text_reader.proofs.Running.{kept, broken, whole_is}
use Rattle.text_reader.proofs.tokens.tokens_from.Goals as goal

pub loop-index-preserved : goal.loop-index-preserved
loop-index-preserved c =
    let st = c.in-Some.ensures.steps in let v = c.loop-index.invariant in
    let k = kept _ _ _ _ _ _ c.in-Some.c (c.args.begin + c.in-Some.index) _ _ _ _ _ v.0 st.1 v.1 (ap (λ i. c.args.begin + i) st.0) (omega (arith, st.2)) c.in-Ok.ensures.read in
    (k.0, k.1, c.in-Ok.ensures.tokens, c.in-Ok.ensures.result)

pub returns-in-Err-clause-read : goal.returns-in-Err-clause-read
returns-in-Err-clause-read c =
    let st = c.in-Some.ensures.steps in let v = c.loop-index.invariant in
    broken _ _ _ _ c.in-Some.c (c.args.begin + c.in-Some.index) _ _ _ _ _ v.0 st.1 v.1 (ap (λ i. c.args.begin + i) st.0) c.in-Err.ensures.read

pub returns-in-Ok-finish-clause-read : goal.returns-in-Ok-finish-clause-read
returns-in-Ok-finish-clause-read c =
    let v = c.loop-index.invariant in
    sym (whole_is _ _ _ _ _ _ _ c.in-None.ensures.steps.0 v.1) ∙ c.in-Ok-finish.ensures.read

pub returns-in-Err-finish-clause-read : goal.returns-in-Err-finish-clause-read
returns-in-Err-finish-clause-read c =
    let v = c.loop-index.invariant in
    subst (Fails _) (whole_is _ _ _ _ _ _ _ c.in-None.ensures.steps.0 v.1) c.in-Err-finish.ensures.read

use Rattle.std.proofs.Common.{◌≡◌, ℕ, ◌+◌, ◌*◌, ◌++◌, ap, ◌∙◌, arith}
use Rattle.std.specs.Prelude.{replicate, string_bytes}
use Rattle.std.proofs.lemmas.List.{append_assoc, replicate-append-replicate}
use Rattle.rust_text.proofs.spelling.push_indent.Goals as goal

pub loop-step-preserved : goal.loop-step-preserved
loop-step-preserved c =
    let old = string_bytes c.args.out.now in
    let n = c.loop-step.step in
    let e : 4 * n + 4 ≡ 4 * (n + 1) = omega arith in
    c.in_ok-push_str.ensures.bytes ∙ ap (λ t. t ++ replicate 4 32) c.loop-step.invariant ∙ append_assoc old (replicate (4 * n) 32) (replicate 4 32)
    ∙ ap (λ t. old ++ t) (replicate-append-replicate (4 * n) 4 32 ∙ ap (λ (k : ℕ). replicate k 32) e)

use Rattle.std.proofs.Common.{◌≡◌, length, map, sym, subst, ◌∙◌, arith}
use Rattle.std.specs.Prelude.{string_bytes}
use Rattle.std.specs.List.{flat_map, range_with_len}
use Rattle.std.proofs.lemmas.List.{length-map}
use Rattle.cranelift_isle.specs.Envs.{names_of}
use Rattle.rust_items.specs.ClaimViews.{claim_views}
use Rattle.rust_items.specs.NamedPrograms.{constant_claim}
use Rattle.rust_items.specs.ProgramViews.{constant_or_none}
use Rattle.rust_items.proofs.Grown.{counted}
use Rattle.rust_items.proofs.taken.constant_claims.Goals as goal

pub loop-number-preserved : goal.loop-number-preserved
loop-number-preserved c =
    counted (constant_claim (names_of c.args.tyenv.now)) (constant_or_none c.args.tyenv.now) c.loop-number.number _ _ c.loop-number.invariant c.in_ok-push_if_constant.ensures

pub returns : goal.returns
returns c =
    let env = c.args.tyenv.now in
    let n : c.len-number-end.result ≡ length (names_of env) = c.len-number-end.ensures ∙ env.syms.ok.0 ∙ sym (length-map env.syms.items string_bytes) in
    let all : c.loop-number.number ≡ length (names_of env) = omega (arith, n, c.loop-number-test.false, c.loop-number.auto.number-end) in
    subst (λ k. claim_views c.loop-number.claims.items ≡ map (constant_claim (names_of env)) (flat_map (constant_or_none env) (range_with_len 0 k))) all c.loop-number.invariant

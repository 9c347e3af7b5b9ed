use Rattle.std.proofs.Common.{[], ◌∷◌, ◌++◌, ap, codes, ◌∙◌}
use Rattle.std.proofs.lemmas.Result.{on_ok_weaker}
use Rattle.cranelift_isle.specs.Envs.{names_of}
use Rattle.model.specs.lists.Signatures.{text_of}
use Rattle.rust_items.specs.ClaimViews.{claim_views}
use Rattle.rust_items.specs.RustNames.{spelled_path}
use Rattle.rust_items.specs.NamedPrograms.{claim}
use Rattle.rust_items.proofs.taken.push_primitive.Goals as goal

pub returns : goal.returns
returns c =
    let claims = claim_views c.args.claims.now.items in
    let text = text_of (names_of c.args.tyenv.now) c.args.name.0 in
    let written = c.in_ok-push_path.ensures ∙ ap (λ b. b ++ spelled_path c.text_of-name.result.now) c.new-written.ensures.bytes ∙ ap spelled_path c.text_of-name.ensures in
    let owner = c.deref.ensures ∙ c.in_ok-owner.ensures.ok ∙ ap (λ n. codes "primitive " ++ n) c.text_of-name.ensures in
    on_ok_weaker c.push_claim.result
    (λ e. e ∙ ap (λ w. claims ++ claim w c.deref.result.now ∷ []) written ∙ ap (λ o. claims ++ claim (spelled_path text) o ∷ []) owner)
    c.push_claim.ensures

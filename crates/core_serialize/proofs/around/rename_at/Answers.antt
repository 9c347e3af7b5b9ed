use Rattle.std.proofs.Common.{◌∙◌, eqb-true, refl, set, sym}
use Rattle.std.proofs.lemmas.List.{get_or_default}
use Rattle.core_serialize.proofs.ClassNames.{named_back}
use Rattle.core_serialize.proofs.around.rename_at.Goals as goal

pub returns-in_ok-push-clause-undone : goal.returns-in_ok-push-clause-undone
returns-in_ok-push-clause-undone c =
    let names = c.args.names.now.items in
    let site = c.args.site in
    let name = c.index.result.now in
    named_back c.args.sites.now.items site c.args.from c.args.to names (set names site c.args.to) c.push.new.self.items c.in_ok-push.ensures.items refl
    (get_or_default names site site name c.requires ∙ sym c.index.ensures ∙ eqb-true name c.args.from (sym c.eq.ensures ∙ c.if-eq.true))

use Rattle.std.proofs.Common.{◌≡◌, ◌∙◌, ◌==◌, ap, get_or}
use Rattle.core_serialize.proofs.around.are_joined.Goals as goal

pub returns : goal.returns
returns c =
    let names = c.args.place.now.around.now.names.items in
    let first : c.name_of.result ≡ get_or names c.args.a c.args.a = c.name_of.ensures ∙ ap (λ l. get_or l c.args.a c.args.a) c.deref.ensures.value in
    let second : c.name_of-2.result ≡ get_or names c.args.b c.args.b = c.name_of-2.ensures ∙ ap (λ l. get_or l c.args.b c.args.b) c.deref-2.ensures.value in
    let same : (c.name_of.result == c.name_of-2.result) ≡ (get_or names c.args.a c.args.a == get_or names c.args.b c.args.b) = λ i. first i == second i in
    c.eq.ensures ∙ same ∙ c.args.place.now.are_named c.args.a c.args.b

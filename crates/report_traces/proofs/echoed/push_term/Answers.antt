use Rattle.std.proofs.Common.{rules, ◌≡◌, ◌==◌, ◌++◌, ◌∷◌, []}
use Rattle.std.specs.List.{list_any}
use Rattle.report_traces.proofs.EchoedTerms.{no_term_more, one_term_more}
use Rattle.report_traces.proofs.echoed.push_term.Goals as goal

pub returns-then-is_among : goal.returns-then-is_among
returns-then-is_among c =
    let asked : c.is_among.result ≡ list_any (λ other. other.0 == c.args.term.0) c.args.terms.now.items = search rules in
    no_term_more c.args.terms.now.items c.args.term c.is_among.result asked c.if-is_among.true

pub returns : goal.returns
returns c =
    let asked : c.is_among.result ≡ list_any (λ other. other.0 == c.args.term.0) c.args.terms.now.items = search rules in
    let added : c.push.new.self.items ≡ c.args.terms.now.items ++ c.args.term ∷ [] = search rules in
    one_term_more c.args.terms.now.items c.push.new.self.items c.args.term c.is_among.result asked c.if-is_among.false added

use Rattle.std.proofs.Common.{sym}
use Rattle.core_terms.specs.TermViews.{term_views}
use Rattle.rust_text.proofs.InsideCalls.{calls_none}
use Rattle.rust_text.proofs.expanded.called_inside.Goals as goal

pub returns : goal.returns
returns c = sym (calls_none (term_views c.args.terms.now) c.args.site.now c.in_default.not-Extractor)

use Rattle.std.proofs.Common.{map, ap, ◌∙◌}
use Rattle.core_types.specs.TypeViews.{type_views}
use Rattle.model.specs.claims.Layers.{own_program}
use Rattle.spec_asked.specs.Tables.{entry_types}
use Rattle.spec_asked.proofs.LoweredTables.{built_there, terms_are, types_are}
use Rattle.spec_asked.proofs.lowered.lowered_questions.Goals as goal

pub returns-clause-asked : goal.returns-clause-asked
returns-clause-asked c = λ s n.
    let lowered = c.args.lowered.now in
    c.in_ok-questions_of.ensures.asked (own_program s.defs s.rules) n.naming s.saying s.unknowns
    (record {
      types = ap type_views c.deref.ensures.value ∙ types_are s.defs s.expand s.rules lowered s.answer;
      signatures = s.signed ∙ ap (map entry_types) (terms_are s.defs s.expand s.rules lowered s.answer);
    })
    (built_there s.defs s.expand s.rules lowered s.answer s.place c.args.term.now s.there) s.said n.named n.sites

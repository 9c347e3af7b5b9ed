use Rattle.std.proofs.Common.{lit<, rules, ◌∙◌, sym, ap, not, option_map}
use borrow.Author.Tests.{tests}
use Rattle.std.proofs.lemmas.Iterator.Search.{find_from_yields_List}
use Rattle.std.proofs.lemmas.Iterator.Splits.{YieldsList-from_str_split}
use Rattle.app_command.specs.WantedTerms.{has_term, missing_name}
use Rattle.app_command.proofs.trees.missing_term.Goals as goal

pub returns-in-Some : goal.returns-in-Some
returns-in-Some c =
    find_from_yields_List (λ name. not (has_term c.args.lowered.now name)) _ _ c.find.result c.find.ensures.ran
    (YieldsList-from_str_split 44 c.in-Some.names.now (lit< tt) c.split.ensures.text c.split.ensures.has_more c.split.ensures.pattern)
    (λ x b q k. search (rules, tests))
    ∙ ap (λ asked. missing_name (option_map (λ s. s.now) asked) c.args.lowered.now) (sym c.in-Some.is)

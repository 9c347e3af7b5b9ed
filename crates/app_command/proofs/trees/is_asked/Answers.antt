use Rattle.std.proofs.Common.{lit<, rules, ◌∙◌, sym, ap, option_map}
use borrow.Author.Tests.{tests}
use Rattle.std.proofs.lemmas.Iterator.Search.{any_from_yields_List}
use Rattle.std.proofs.lemmas.Iterator.Splits.{YieldsList-from_str_split}
use Rattle.std.specs.Str.{bytes_eq}
use Rattle.app_command.specs.WantedTerms.{is_asked}
use Rattle.app_command.proofs.trees.is_asked.Goals as goal

pub returns-in-Some : goal.returns-in-Some
returns-in-Some c =
    any_from_yields_List (λ other. bytes_eq other c.args.name.now) _ _ _ c.any.ensures.ran
    (YieldsList-from_str_split 44 c.in-Some.names.now (lit< tt) c.split.ensures.text c.split.ensures.has_more c.split.ensures.pattern)
    (λ x b q k. search (rules, tests))
    ∙ ap (λ asked. is_asked (option_map (λ s. s.now) asked) c.args.name.now) (sym c.in-Some.is)

use Rattle.std.proofs.Common.{rules, ◌≡◌, false, List, [], ◌∷◌, map, length, String, Global, string_bytes, refl, nat_eq}
use Rattle.report_queries.specs.Samples.{names_sample}
use Rattle.report_queries.proofs.sample_run.text_named_by.Goals as goal

-- none or several words name no sample
none_named : (words : List (String Global)) → nat_eq (length words) 1 ≡ false → false ≡ names_sample (map string_bytes words)
none_named [] e = refl
none_named (x ∷ []) e = cc
none_named (x ∷ (y ∷ rest)) e = refl

pub returns-then-words-ne1 : goal.returns-then-words-ne1
returns-then-words-ne1 c = none_named c.args.words.now (search rules)

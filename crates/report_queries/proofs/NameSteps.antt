-- The names of rules, one more at a time; and the bytes of a sink.
use Rattle.std.proofs.Common.{◌≡◌, ℕ, ◌+◌, ◌<◌, ◌≤◌, List, ◌∷◌, length, get_or, drop, Option, Some, None, sym, ap, ◌∙◌}
use Rattle.std.specs.Io.KnownBytes.{Appends, Keeps}
use Rattle.std.proofs.lemmas.List.{at_drop_more, at_drop_all}
use Rattle.core_rule_sets.specs.declared.trie_again.Rule.{Rule}
use Rattle.core_types.specs.declared.ids.Sym.{Sym}
use Rattle.model.specs.lists.Syntax.{Position}
use Rattle.report_queries.specs.TermTexts.{name_or, name_behind}

module _ (xs : List Rule) (at : Position) where
  pub one_name_more : (i : ℕ) (r : Rule) (before after whole : Option Sym) → i < length xs → r ≡ get_or xs i r → after ≡ name_or r at before
      → name_behind before (drop i xs) at ≡ whole → name_behind after (drop (i + 1) xs) at ≡ whole
  one_name_more i r before after whole h is e inv =
      ap (λ (n : Option Sym). name_behind n (drop (i + 1) xs) at) e
      ∙ ap (λ (y : Rule). name_behind before (y ∷ drop (i + 1) xs) at) is
      ∙ sym (at_drop_more (λ (rs : List Rule). name_behind before rs at) xs i r h) ∙ inv

  pub no_name_more : (i : ℕ) (before whole : Option Sym) → length xs ≤ i → name_behind before (drop i xs) at ≡ whole → before ≡ whole
  no_name_more i before whole h inv = sym (at_drop_all (λ (rs : List Rule). name_behind before rs at) xs i h) ∙ inv

-- what is known and stays has what was added
pub appends_kept : (old mid new : Option (List ℕ)) (bs : List ℕ) → Appends old mid bs → Keeps mid new → Appends old new bs
appends_kept None mid new bs a k = tt
appends_kept (Some xs) None new bs a k = absurd a
appends_kept (Some xs) (Some ys) None bs a k = k
appends_kept (Some xs) (Some ys) (Some zs) bs a k = k ∙ a

-- What forms say for a verifier, one after another.
use Rattle.std.proofs.Common.{◌≡◌, ℕ, suc, ◌+◌, ◌<◌, ◌≤◌, List, [], ◌++◌, drop, get_or, length, map, Option, Result, Ok, arith}
use Rattle.std.proofs.lemmas.List.{append_assoc, at_drop_all}
use Rattle.std.proofs.Math.Seq.{drop-cons}
use Rattle.std.proofs.lemmas.Grind.{common_steps}
use Rattle.text_reader.specs.declared.forms.TextForm.{TextForm}
use Rattle.text_reader.specs.declared.errors.ReadFault.{ReadFault}
use Rattle.text_reader.specs.Lexemes.{Wrong, ◌>>=◌}
use Rattle.text_reader.specs.FormViews.{form_view, all_view}
use Rattle.text_reader.specs.Views.{Fails}
use Rattle.text_reader.proofs.ReadLists.{fails-too}
use Rattle.text_reader.specs.declared.syntax.VerificationForm.{VerificationForm}
use Rattle.text_reader.specs.SpecTrees.{VerificationTree}
use Rattle.text_reader.specs.SpecViews.{numbered_view}
use Rattle.text_reader.specs.Verifying.{numbered, said_of, said_from}

abbrev Said : Type 0
Said = List (ℕ × VerificationTree)

-- so many of these forms say this; with what the others say it is what all say
abbrev pub AreSaid : List TextForm → ℕ → Said → Type 0
AreSaid forms count said = said_from 0 (all_view forms) ≡ (said_from count (all_view (drop count forms)) >>= (λ rest. Ok (said ++ rest)))

none_before : (r : Result Said Wrong) → r ≡ (r >>= (λ rest. Ok ([] ++ rest)))
none_before r = grind (arith, common_steps)

joined : (said more : Said) (r : Result Said Wrong) → ((r >>= (λ vs. Ok (more ++ vs))) >>= (λ rest. Ok (said ++ rest))) ≡ (r >>= (λ rest. Ok ((said ++ more) ++ rest)))
joined said more r = grind (arith, common_steps, append_assoc)

pub said-begun : (forms : List TextForm) (read : List (ℕ × VerificationForm)) → read ≡ [] → AreSaid forms 0 (map numbered_view read)
said-begun forms read empty = grind (arith, common_steps, none_before)

pub said-done : (forms : List TextForm) (n : ℕ) (read : List (ℕ × VerificationForm)) → length forms ≤ n → AreSaid forms n (map numbered_view read)
    → said_from 0 (all_view forms) ≡ Ok (map numbered_view read)
said-done forms n read past so_far = grind (arith, common_steps, at_drop_all)

module _ (forms : List TextForm) (n : ℕ) where
  abbrev rest_said : Result Said Wrong
  rest_said = said_from (suc n) (all_view (drop (suc n) forms))

  -- the form that comes next, and the others
  parted : (f : TextForm) → n < length forms → f ≡ get_or forms n f
      → said_from n (all_view (drop n forms)) ≡ (said_of (form_view f) >>= (λ v. rest_said >>= (λ vs. Ok (numbered n v ++ vs))))
  parted f inside at = grind (arith, common_steps, drop-cons)

  pub said-failed : (said : Said) (f : TextForm) (e : ReadFault) → n < length forms → f ≡ get_or forms n f → Fails e (said_of (form_view f)) → AreSaid forms n said
      → Fails e (said_from 0 (all_view forms))
  said-failed said f e inside at fails so_far = grind (arith, common_steps, fails-too, parted)

  pub said-more : (old new : List (ℕ × VerificationForm)) (f : TextForm) (v : Option VerificationTree) → n < length forms → f ≡ get_or forms n f → said_of (form_view f) ≡ Ok v
      → map numbered_view new ≡ map numbered_view old ++ numbered n v → AreSaid forms n (map numbered_view old) → AreSaid forms (n + 1) (map numbered_view new)
  said-more old new f v inside at is pushed so_far = grind (arith, common_steps, parted, joined)

-- Forms that are read one after another.
use Rattle.std.proofs.Common.{◌≡◌, ℕ, suc, ◌+◌, ◌<◌, List, [], ◌∷◌, ◌++◌, drop, get_or, length, map, ap, ◌∙◌, Result, Ok, arith}
use Rattle.std.proofs.lemmas.List.{append_assoc, map-append}
use Rattle.std.proofs.Math.Seq.{drop-cons}
use Rattle.std.proofs.lemmas.Grind.{common_steps}
use Rattle.text_reader.specs.declared.forms.TextForm.{TextForm}
use Rattle.text_reader.specs.Lexemes.{Wrong, ◌>>=◌}
use Rattle.text_reader.specs.FormTrees.{FormTree, form_and}
use Rattle.text_reader.specs.FormViews.{form_view, all_view}
use Rattle.text_reader.specs.Grammar.{each_of}

module _ {A : Type 0} (one : FormTree → Result A Wrong) where
  -- of these forms so many are read, as these things: with what the others are they are what all are
  abbrev pub IsReadOn : List TextForm → ℕ → List A → Type 0
  IsReadOn forms count read =
      each_of one (all_view forms) ≡ (each_of one (all_view (drop count forms)) >>= (λ rest. Ok (read ++ rest)))

  -- the form that comes next, and the others
  parted : (forms : List TextForm) (n : ℕ) (f : TextForm) → n < length forms → f ≡ get_or forms n f
      → all_view (drop n forms) ≡ form_and (form_view f) (all_view (drop (suc n) forms))
  parted forms n f inside at = grind (arith, common_steps, drop-cons)

  then : (read : List A) (x : A) (r : Result (List A) Wrong)
      → ((r >>= (λ xs. Ok (x ∷ xs))) >>= (λ rest. Ok (read ++ rest))) ≡ (r >>= (λ rest. Ok ((read ++ x ∷ []) ++ rest)))
  then read x r = grind (arith, common_steps, append_assoc)

  pub more : (forms : List TextForm) (n : ℕ) (read : List A) (f : TextForm) (x : A) → n < length forms → f ≡ get_or forms n f
      → one (form_view f) ≡ Ok x → IsReadOn forms n read → IsReadOn forms (suc n) (read ++ x ∷ [])
  more forms n read f x inside at is so_far =
      so_far
      ∙ ap (λ fs. each_of one fs >>= (λ rest. Ok (read ++ rest))) (parted forms n f inside at)
      ∙ ap (λ r. (r >>= (λ y. each_of one (all_view (drop (suc n) forms)) >>= (λ xs. Ok (y ∷ xs)))) >>= (λ rest. Ok (read ++ rest))) is
      ∙ then read x (each_of one (all_view (drop (suc n) forms)))

  -- one more is put behind them
  pub put : {X : Type 0} (view : X → A) (forms : List TextForm) (n : ℕ) (old new : List X) (f : TextForm) (x : X) → n < length forms → f ≡ get_or forms n f
      → one (form_view f) ≡ Ok (view x) → new ≡ old ++ x ∷ [] → IsReadOn forms n (map view old) → IsReadOn forms (n + 1) (map view new)
  put view forms n old new f x inside at is pushed so_far = grind (arith, common_steps, map-append, more)

-- Of each element of a list a warning is told, one after another.
use Rattle.std.proofs.Common.{◌≡◌, ◌+◌, ◌<◌, ◌++◌, ◌∷◌, ◌∙◌, ℕ, List, [], ap, get_or, length, map, sym, take}
use Rattle.std.proofs.lemmas.List.{append_assoc, map-append, take_more}
use Rattle.model.specs.lists.Syntax.{Position}
use Rattle.report_print.specs.declared.report.Report.{Report}
use Rattle.report_warnings.specs.Added.{told_of, AddsTold}

module _ {X : Type 0} (told : X → List ℕ × List Position) (xs : List X) where
  pub told_one_more : (k : ℕ) (d : X) (r : Report) (before mid after : List Report) → k < length xs → after ≡ mid ++ (r ∷ [])
      → told_of r ≡ told (get_or xs k d) → AddsTold (map told (take k xs)) before mid → AddsTold (map told (take (k + 1) xs)) before after
  told_one_more k d r before mid after within pushed is h = (
    h.0 ++ (r ∷ []),
    pushed ∙ ap (λ (l : List Report). l ++ (r ∷ [])) h.1 ∙ append_assoc before h.0 (r ∷ []),
    map-append told_of h.0 (r ∷ []) ∙ (λ i. h.2 i ++ (is i ∷ [])) ∙ sym (map-append told (take k xs) (get_or xs k d ∷ []))
        ∙ ap (map told) (sym (take_more xs k d within)),
  )

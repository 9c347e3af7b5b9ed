-- What is noted of the parts of one internal extractor, put together.
use Rattle.std.proofs.Common.{◌≡◌, ℕ, List, [], ◌∷◌, ◌⊎◌, None, Vec, slice_get, refl, inr}
use Rattle.std.specs.declared.alloc.Global.{Global}
use Rattle.model.specs.lists.Syntax.{ExtractorTree}
use Rattle.model.specs.lists.TermTable.{terms_in, HoldsNoMacroArg}
use Rattle.core_syntax.specs.declared.syntax.Error.{Error}
use Rattle.core_types.specs.declared.ids.TermId.{TermId}
use Rattle.core_types.specs.declared.type_env.TypeEnv.{TypeEnv}
use Rattle.core_terms.specs.declared.term_table.TermTable.{TermTable}
use Rattle.core_terms.specs.Signing.{NotesIfWrong}
use Rattle.core_terms.specs.Templating.{AreFound, CantTakeTemplate, HaveUnknown, IsTemplate, IsWrongTemplate, SetsCallees, TakesTemplate}
use Rattle.core_terms.proofs.ErrorSteps.{both_note, notes_as}

pub parts_noted : (x : ExtractorTree) (id : ℕ) (env : TypeEnv) (old new : TermTable) (callees callees' : List (Vec TermId Global)) (named : List ℕ) (es mid es' : List Error)
    → HoldsNoMacroArg x → SetsCallees id named callees callees'
    → NotesIfWrong es mid (AreFound env old (terms_in x.template) named) (HaveUnknown env old (terms_in x.template))
    → NotesIfWrong mid es' (TakesTemplate x id old new) (CantTakeTemplate x id old)
    → NotesIfWrong es es' (IsTemplate x id env old new callees callees') (IsWrongTemplate x id env old)
parts_noted x id env old new callees callees' named es mid es' no_macro_args sets a b =
    let Found : Type 0 = AreFound env old (terms_in x.template) named in
    let Takes : Type 0 = TakesTemplate x id old new in
    let Unknown : Type 0 = HaveUnknown env old (terms_in x.template) in
    let Cant : Type 0 = CantTakeTemplate x id old in
    notes_as (Found × Takes) (IsTemplate x id env old new callees callees') (Unknown ⊎ Cant) (IsWrongTemplate x id env old) es es'
    (λ r. record { no_macro_args = no_macro_args; named = named; names = r.0; sets = sets; takes = r.1 })
    (λ w. inr w)
    (both_note Found Takes Unknown Cant es mid es' a b)

-- where there is no first one, there is none
pub no_first : {X : Type 0} (xs : List X) → slice_get xs 0 ≡ None → xs ≡ []
no_first [] h = refl
no_first (x ∷ xs) h = absurd (cc)

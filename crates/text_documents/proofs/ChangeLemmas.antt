-- What changes make of a text, one after the other.
use Rattle.std.proofs.Common.{◌≡◌, ℕ, List, [], ◌∷◌, sym, ◌∙◌, subst, drop, string_bytes, arith}
use Rattle.std.proofs.lemmas.Grind.{common_steps}
use Rattle.text_documents.specs.declared.changes.Change.{Change}
use Rattle.text_documents.specs.declared.changes.Change.TheVariants.{Whole, Range}
use Rattle.text_documents.specs.Changes.{IsEditBy, AreEdits}
use Rattle.text_documents.proofs.EditLemmas.{edit_one}

edit_by_one : (bytes : List ℕ) (change : Change) (made other : List ℕ) → IsEditBy bytes change made → IsEditBy bytes change other → made ≡ other
edit_by_one bytes (Whole text) made other h k = h ∙ sym k
edit_by_one bytes (Range begin end text) made other h k = edit_one bytes begin end (string_bytes text) made other h k

-- a list of changes has one outcome
pub edits_one : (bytes : List ℕ) (changes : List Change) (made other : List ℕ) → AreEdits bytes changes made → AreEdits bytes changes other → made ≡ other
edits_one bytes [] made other h k = h ∙ sym k
edits_one bytes (change ∷ changes) made other h k = grind (arith, common_steps, edits_one h.0 changes made other h.2, edit_by_one bytes change k.0 h.0 k.1 h.1)

-- what the changes that are left make of a text, all make of the first text, and nothing else
pub record LeadTo (first : List ℕ) (all : List Change) (text : List ℕ) (left : List Change) : Type 0 where
  pub on : (bytes : List ℕ) → AreEdits text left bytes → AreEdits first all bytes
  pub back : (bytes : List ℕ) → AreEdits first all bytes → AreEdits text left bytes

-- a change is made
pub one_made : (first text next : List ℕ) (all left : List Change) (change : Change) (i : ℕ) → drop i all ≡ change ∷ left → IsEditBy text change next
    → LeadTo first all text (drop i all) → LeadTo first all next left
one_made first text next all left change i e made l = record {
  on = λ bytes h. l.on bytes (subst (λ cs. AreEdits text cs bytes) (sym e) (next, made, h));
  back = grind (arith, common_steps, edit_by_one);
}

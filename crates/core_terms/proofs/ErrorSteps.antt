-- What was noted, and what that says, one step after another.
use Rattle.std.proofs.Common.{◌≡◌, Bool, true, false, OnOk, Result, ℕ, suc, List, [], ◌⊎◌, sym, ◌∙◌, inl, inr, ⊎_elim, arith}
use Rattle.model.specs.lists.Syntax.{Position, Definition}
use Rattle.core_types.specs.ToldErrors as T
use Rattle.std.proofs.lemmas.Grind.{common_steps}
use Rattle.model.specs.claims.Environments.{TypesRead, IsLeftByRefusal}
use Rattle.core_syntax.specs.declared.syntax.Error.{Error}
use Rattle.core_types.specs.declared.type_env.TypeEnv.{TypeEnv}
use Rattle.core_types.specs.EnvViews.{environment_view}
use Rattle.core_syntax.specs.NotedErrors.{MayNoteMore, NotesMore}
use Rattle.core_types.specs.VariantReading.{ReportsIf}
use Rattle.core_syntax.proofs.NotedErrors.{both, still_ill_typed}
use Rattle.core_terms.specs.declared.term_table.TermTable.{TermTable}
use Rattle.core_terms.specs.Reading.{IsWithin}
use Rattle.core_terms.specs.TermBreaches.{TermGroup}
use Rattle.core_terms.specs.Signing.{NotesIfWrong, ReadsTerms}
use Rattle.core_terms.proofs.Breaches.{Breach, first_found, first_stays}

-- one thing after another
pub both_note : (A B W V : Type 0) (es mid es' : List Error) → NotesIfWrong es mid A W → NotesIfWrong mid es' B V → NotesIfWrong es es' (A × B) (W ⊎ V)
both_note A B W V es mid es' h k = grind (arith, both)

-- the same, said in other words
pub notes_as : (A B W V : Type 0) (es es' : List Error) → (A → B) → (W → V) → NotesIfWrong es es' A W → NotesIfWrong es es' B V
notes_as A B W V es es' f g h = grind (arith, common_steps)

-- something may have been noted
pub may_note : (A W : Type 0) (es es' : List Error) → NotesIfWrong es es' A W → MayNoteMore es es'
may_note A W es es' h = grind (arith, common_steps)

pub if_noted : (b : Bool) (es es' : List Error) → ReportsIf b es es' → NotesIfWrong es es' (b ≡ false) (b ≡ true)
if_noted b es es' h = grind (arith, common_steps)

-- what was right so far makes the next thing right, or the first error stands where a condition is broken
pub step : (e : TypesRead) (group : TermGroup) (defs : List Definition) (A B : TypeEnv → TermTable → Type 0) (old new : TypeEnv) (table table' : TermTable) (es es' : List Error) (Right Wrong : Type 0)
    → IsLeftByRefusal e (environment_view new) → IsWithin table' → NotesIfWrong es es' Right Wrong
    → (A old table → Right → B new table') → (A old table → Wrong → Breach e.known group defs es es')
    → ReadsTerms e group defs A old table es → ReadsTerms e group defs B new table' es'
step e group defs A B old new table table' es es' Right Wrong left within (inl a) right wrong s = grind (arith, common_steps)
step e group defs A B old new table table' es es' Right Wrong left within (inr a) right wrong s = record {
  left = left;
  within = within;
  ill_typed = still_ill_typed a.0 s.ill_typed;
  so_far = inr (⊎_elim (λ r. first_found e.known group defs es es' r.0 a.0 (wrong r.1 a.1)) (first_stays e.known group defs es es' a.0) s.so_far);
}

-- what is right so far, said in other words
pub reads_as : (e : TypesRead) (group : TermGroup) (defs : List Definition) (A B : TypeEnv → TermTable → Type 0) (env : TypeEnv) (table : TermTable) (es : List Error) → (A env table → B env table) → ReadsTerms e group defs A env table es → ReadsTerms e group defs B env table es
reads_as e group defs A B env table es f s = record { left = s.left; within = s.within; ill_typed = s.ill_typed; so_far = ⊎_elim (λ r. inl (r.0, f r.1)) (λ w. inr w) s.so_far }

-- before the first definition of the next group
pub reads_next : (e : TypesRead) (group next : TermGroup) (defs : List Definition) (A B : TypeEnv → TermTable → Type 0) (env : TypeEnv) (table : TermTable) (es : List Error) → es ≡ [] → (A env table → B env table) → ReadsTerms e group defs A env table es → ReadsTerms e next defs B env table es
reads_next e group next defs A B env table es none f s = record { left = s.left; within = s.within; ill_typed = s.ill_typed; so_far = inl (none, ⊎_elim (λ r. f r.1) (λ w. absurd (let some = sym none ∙ w.is in cc)) s.so_far) }

-- something was noted, where so much was
pub some_noted : (n : ℕ) (ps : List Position) (es es' : List Error) → T.Notes (suc n) ps es es' → NotesMore es es'
some_noted n ps es es' r = grind (arith, common_steps)

-- two facts of what was answered
pub both_ok : {T E : Type 0} (r : Result T E) (A B C : Type 0) → (A → B → C) → OnOk r A → OnOk r B → OnOk r C
both_ok r A B C f a b = grind (arith, common_steps)

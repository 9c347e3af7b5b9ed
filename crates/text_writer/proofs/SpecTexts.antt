-- Text that is added in several steps: a spec's parts, a value and its cases.
use Rattle.std.proofs.Common.{◌≡◌, ℕ, ◌+◌, ◌<◌, List, [], ◌∷◌, ◌++◌, length, map, drop, get_or, arith}
use Rattle.std.specs.Prelude.{codes}
use Rattle.std.proofs.lemmas.Grind.{common_steps}
use Rattle.text_reader.specs.FormTrees.{FormTree, FormTrees}
use Rattle.text_writer.specs.Texts.{written, spaced}
use Rattle.text_reader.specs.SpecTrees.{ModifiesTree, SpecTree}
use Rattle.text_writer.specs.SpecForms.{forms_by, part_forms, spec_parts, modifies_form}

pub parts_told : (s : SpecTree) (ms : List ModifiesTree) (t t1 t2 t3 t4 : List ℕ) → ms ≡ s.modifies
    → t1 ≡ t ++ spaced (part_forms (codes "match") s.matches) → t2 ≡ t1 ++ spaced (part_forms (codes "provide") s.provides)
    → t3 ≡ t2 ++ spaced (part_forms (codes "require") s.required) → t4 ≡ t3 ++ spaced (forms_by modifies_form ms) → t4 ≡ t ++ spaced (spec_parts s)
parts_told s ms t t1 t2 t3 t4 is e1 e2 e3 e4 = grind (arith, common_steps)

-- a word, a value and its cases
pub cases_told : (x : FormTree) (fs : FormTrees) (op s s1 s2 : List ℕ) → s1 ≡ s ++ 40 ∷ (op ++ 32 ∷ written x) → s2 ≡ s1 ++ (spaced fs ++ 41 ∷ [])
    → s2 ≡ s ++ 40 ∷ ((op ++ 32 ∷ (written x ++ spaced fs)) ++ 41 ∷ [])
cases_told x fs op s s1 s2 e1 e2 = grind (arith, common_steps)

-- one more of several, behind a space
pub next_told : {A B : Type 0} (form : B → FormTree) (view : A → B) (xs : List A) (i : ℕ) (x : A) (s s1 s2 : List ℕ) → i < length xs → x ≡ get_or xs i x
    → s1 ≡ s ++ codes " " → s2 ≡ s1 ++ written (form (view x))
    → s2 ++ spaced (forms_by form (map view (drop (i + 1) xs))) ≡ s ++ spaced (forms_by form (map view (drop i xs)))
next_told {A = A} form view xs i x s s1 s2 h is e1 e2 = grind (arith, common_steps)

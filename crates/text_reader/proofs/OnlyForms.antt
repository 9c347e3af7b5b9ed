-- Forms that tokens spell are read, where they nest 1,000 deep at most and words that begin with `-` are passed over.
use Rattle.std.proofs.Common.{◌≡◌, ℕ, suc, ◌+◌, ◌≤◌, true, false, not, ◌||◌, List, [], ◌∷◌, length, map, refl, sym, ap, ◌∙◌, arith}
use Rattle.std.specs.Prelude.{◌⊎◌, nat_le, Ok}
use Rattle.std.proofs.lemmas.Bool.{or_parts, and_parts, eqb-true}
use Rattle.std.proofs.lemmas.Bool.Decides.{nat_tests}
use Rattle.std.proofs.lemmas.Grind.{common_steps}
use Rattle.model.specs.lists.Syntax.{Position, Name}
use Rattle.text_reader.specs.Lexemes.{Lexeme, end_list, word, dash, ◌>>=◌}
use Rattle.text_reader.specs.FormTrees.{FormTree, a_word, a_binding, a_list, FormTrees, no_form, form_and, spelled, all_spelled, depth, all_depth}
use Rattle.text_reader.specs.PassedOver.{passes_over, is_dashed, has_dash, have_dash, dashes_are_passed_over}
use Rattle.text_reader.specs.Forming.{Begun, a_group, a_binder, behind, put, passes, started, forms_from, forms_of}
use Rattle.text_reader.specs.PassedOver.{mark}
use Rattle.text_reader.proofs.FoundForms.{Takes}

clean_alone : (f : FormTree) → (not (has_dash f) || false) ≡ true → has_dash f ≡ false
clean_alone f e = grind (arith, common_steps)

abbrev joined : FormTrees → FormTrees → FormTrees
joined no_form gs = gs
joined (form_and f fs) gs = form_and f (joined fs gs)

joined_behind : (fs : FormTrees) (g : FormTree) (gs : FormTrees) → joined (behind fs g) gs ≡ joined fs (form_and g gs)
joined_behind no_form g gs = refl
joined_behind (form_and f fs) g gs = ap (form_and f) (joined_behind fs g gs)

joined_none : (fs : FormTrees) → joined fs no_form ≡ fs
joined_none no_form = refl
joined_none (form_and f fs) = ap (form_and f) (joined_none fs)

-- a word that begins with `-` begins nothing that is passed over
head_clean : (w : List ℕ) → passes_over w ≡ true → is_dashed w ≡ false
head_clean w e = grind (arith, common_steps, eqb-true)

room : (n : ℕ) → suc n ≤ 1000 → nat_le 1000 n ≡ false
room n h = grind (arith, nat_tests, h)

-- the name's form is taken as the binding is
bound_takes : (n : Name) (f : FormTree) (os : List Begun) → Takes (a_binding n f) os → Takes f (a_binder n ∷ os)
bound_takes n f os h = grind (arith, common_steps, clean_alone)

-- the list that the parts make, behind those that are read, passes over what it has, or they have nothing to pass over
abbrev PartsTake : FormTrees → FormTrees → Position → List Begun → Type 0
PartsTake gs done p os = (have_dash gs ≡ false) ⊎ (passes (a_group (joined done gs) p ∷ os) ≡ true)

first_takes : (g : FormTree) (gs done : FormTrees) (p : Position) (os : List Begun) → PartsTake (form_and g gs) done p os → Takes g (a_group done p ∷ os)
first_takes g gs done p os h = grind (arith, common_steps, or_parts, head_clean)

rest_take : (g : FormTree) (gs done : FormTrees) (p : Position) (os : List Begun) → PartsTake (form_and g gs) done p os → PartsTake gs (behind done g) p os
rest_take g gs done p os h = grind (arith, common_steps, or_parts, joined_behind)

list_takes : (gs : FormTrees) (p e : Position) (os : List Begun) → Takes (a_list gs p e) os → PartsTake gs no_form p os
list_takes gs p e os h = grind (arith, common_steps)

module _ (file end : ℕ) where
  started_reads : (o : Begun) (p : Position) (fs : FormTrees) (os : List Begun) (ts : List Lexeme) → suc (length os) ≤ 1000
      → (started o p fs os >>= (λ s. forms_from file end ts s.0 s.1)) ≡ forms_from file end ts fs (o ∷ os)
  started_reads o p fs os ts h = rw (room (length os) h) refl

  dash_reads : (n : Name) (fs : FormTrees) (os : List Begun) (ts : List Lexeme) → passes os ≡ true
      → forms_from file end (dash n ∷ ts) fs os ≡ forms_from file end ts (put (a_word n) fs os).0 (put (a_word n) fs os).1
  dash_reads n fs os ts over = rw over refl

  word_reads : (n : Name) (fs : FormTrees) (os : List Begun) (ts : List Lexeme) → Takes (a_word n) os
      → forms_from file end (mark (word n) ∷ ts) fs os ≡ forms_from file end ts (put (a_word n) fs os).0 (put (a_word n) fs os).1
  word_reads n fs os ts h = grind (arith, common_steps, clean_alone, dash_reads)

  mutual
    reads_one : (f : FormTree) (fs : FormTrees) (os : List Begun) (after : List Lexeme) → depth f + length os ≤ 1000 → Takes f os
        → forms_from file end (map mark (spelled f after)) fs os ≡ forms_from file end (map mark after) (put f fs os).0 (put f fs os).1
    reads_one (a_binding n f) fs os after deep h =
        started_reads (a_binder n) n.at fs os (map mark (spelled f after)) (omega (arith, deep))
        ∙ reads_one f fs (a_binder n ∷ os) after (omega (arith, deep)) (bound_takes n f os h)
    reads_one (a_list gs p e) fs os after deep h =
        started_reads (a_group no_form p) p fs os (map mark (all_spelled gs (end_list e ∷ after))) (omega (arith, deep))
        ∙ reads_parts gs no_form p fs os (end_list e ∷ after) (omega (arith, deep)) (list_takes gs p e os h)
    reads_one f fs os after deep h = grind (arith, common_steps, word_reads)

    reads_parts : (gs done : FormTrees) (p : Position) (fs : FormTrees) (os : List Begun) (after : List Lexeme) → all_depth gs + suc (length os) ≤ 1000 → PartsTake gs done p os
        → forms_from file end (map mark (all_spelled gs after)) fs (a_group done p ∷ os) ≡ forms_from file end (map mark after) fs (a_group (joined done gs) p ∷ os)
    reads_parts no_form done p fs os after deep h = ap (λ l. forms_from file end (map mark after) fs (a_group l p ∷ os)) (sym (joined_none done))
    reads_parts (form_and g gs) done p fs os after deep h =
        reads_one g fs (a_group done p ∷ os) (all_spelled gs after) (omega (arith, deep)) (first_takes g gs done p os h)
        ∙ reads_parts gs (behind done g) p fs os after (omega (arith, deep)) (rest_take g gs done p os h)
        ∙ ap (λ l. forms_from file end (map mark after) fs (a_group l p ∷ os)) (joined_behind done g gs)

  reads_all : (gs done : FormTrees) → all_depth gs ≤ 1000 → dashes_are_passed_over gs ≡ true → forms_from file end (map mark (all_spelled gs [])) done [] ≡ Ok (joined done gs)
  reads_all no_form done deep h = ap Ok (sym (joined_none done))
  reads_all (form_and g gs) done deep h = grind (arith, common_steps, reads_all gs (behind done g), and_parts, reads_one, joined_behind)

  pub forms_read : (gs : FormTrees) → all_depth gs ≤ 1000 → dashes_are_passed_over gs ≡ true → forms_of file end (map mark (all_spelled gs [])) ≡ Ok gs
  forms_read gs deep h = reads_all gs no_form deep h

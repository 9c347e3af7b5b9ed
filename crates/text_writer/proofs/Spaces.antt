-- What stands before other forms is written before them.
use Rattle.std.proofs.Common.{◌≡◌, ℕ, refl, sym, ap, ◌∙◌, List, [], ◌∷◌, ◌++◌, append_assoc, append-nil}
use Rattle.std.specs.Prelude.{ℤ, Bool, true, false, codes, Option, Some, None}
use Rattle.model.specs.lists.Syntax.{Name, IfLetTree, TypeTree, DeclTree, RuleTree}
use Rattle.text_reader.specs.FormTrees.{FormTree, FormTrees, no_form, form_and}
use Rattle.text_writer.specs.Forms.{the_word, word_form, number_form, flag_before, flags_before, type_words_before, rule_words_before, name_before, priority_before, if_let_form, if_lets_before}
use Rattle.text_writer.specs.Texts.{written, spaced}

pub one : (f : FormTree) (fs : FormTrees) → spaced (form_and f fs) ≡ spaced (form_and f no_form) ++ spaced fs
one f fs = ap (λ t. 32 ∷ (t ++ spaced fs)) (sym (append-nil (written f)))

pub spaced-flag : (t : List ℕ) (is : Bool) (fs : FormTrees) → spaced (flag_before t is fs) ≡ spaced (flag_before t is no_form) ++ spaced fs
unfolding flag_before
spaced-flag t true fs = one (the_word t) fs
spaced-flag t false fs = refl

pub spaced-name : (n : Option Name) (fs : FormTrees) → spaced (name_before n fs) ≡ spaced (name_before n no_form) ++ spaced fs
unfolding name_before
spaced-name None fs = refl
spaced-name (Some n) fs = one (word_form n) fs

pub spaced-priority : (z : Option ℤ) (fs : FormTrees) → spaced (priority_before z fs) ≡ spaced (priority_before z no_form) ++ spaced fs
unfolding priority_before
spaced-priority None fs = refl
spaced-priority (Some z) fs = one (number_form z) fs

pub spaced-if_lets : (ls : List IfLetTree) (fs : FormTrees) → spaced (if_lets_before ls fs) ≡ spaced (if_lets_before ls no_form) ++ spaced fs
unfolding if_lets_before
spaced-if_lets [] fs = refl
spaced-if_lets (l ∷ ls) fs =
    ap (λ t. 32 ∷ (written (if_let_form l) ++ t)) (spaced-if_lets ls fs)
    ∙ ap (λ t. 32 ∷ t) (sym (append_assoc (written (if_let_form l)) (spaced (if_lets_before ls no_form)) (spaced fs)))

pub spaced-flags : (d : DeclTree) (fs : FormTrees) → spaced (flags_before d fs) ≡ spaced (flags_before d no_form) ++ spaced fs
unfolding flags_before flag_before
spaced-flags d fs = by d.pure d.multi d.partial d.rec
  where
    by : (pure multi partial rec : Bool)
        → (let before : FormTrees → FormTrees = λ gs. flag_before (codes "pure") pure (flag_before (codes "multi") multi (flag_before (codes "partial") partial (flag_before (codes "rec") rec gs))) in
        spaced (before fs) ≡ spaced (before no_form) ++ spaced fs)
    by true true true true = refl
    by true true true false = refl
    by true true false true = refl
    by true true false false = refl
    by true false true true = refl
    by true false true false = refl
    by true false false true = refl
    by true false false false = refl
    by false true true true = refl
    by false true true false = refl
    by false true false true = refl
    by false true false false = refl
    by false false true true = refl
    by false false true false = refl
    by false false false true = refl
    by false false false false = refl

pub spaced-type_words : (t : TypeTree) (fs : FormTrees) → spaced (type_words_before t fs) ≡ spaced (type_words_before t no_form) ++ spaced fs
unfolding type_words_before
spaced-type_words t fs =
    let first = spaced (flag_before (codes "extern") t.is_extern no_form) in
    let second = spaced (flag_before (codes "nodebug") t.is_nodebug no_form) in
    let words : (gs : FormTrees) → spaced (flag_before (codes "extern") t.is_extern (flag_before (codes "nodebug") t.is_nodebug gs)) ≡ (first ++ second) ++ spaced gs =
    λ gs. spaced-flag (codes "extern") t.is_extern (flag_before (codes "nodebug") t.is_nodebug gs)
    ∙ ap (λ u. first ++ u) (spaced-flag (codes "nodebug") t.is_nodebug gs) ∙ sym (append_assoc first second (spaced gs)) in
    ap (λ u. 32 ∷ (t.name.text ++ u)) (words fs ∙ ap (λ u. u ++ spaced fs) (sym (append-nil (first ++ second)) ∙ sym (words no_form)))
    ∙ ap (λ u. 32 ∷ u) (sym (append_assoc t.name.text (spaced (flag_before (codes "extern") t.is_extern (flag_before (codes "nodebug") t.is_nodebug no_form))) (spaced fs)))

pub spaced-rule_words : (r : RuleTree) (fs : FormTrees) → spaced (rule_words_before r fs) ≡ spaced (rule_words_before r no_form) ++ spaced fs
unfolding rule_words_before
spaced-rule_words r fs =
    spaced-name r.name (priority_before r.prio fs)
    ∙ ap (λ u. spaced (name_before r.name no_form) ++ u) (spaced-priority r.prio fs)
    ∙ sym (append_assoc (spaced (name_before r.name no_form)) (spaced (priority_before r.prio no_form)) (spaced fs))
    ∙ ap (λ u. u ++ spaced fs) (sym (spaced-name r.name (priority_before r.prio no_form)))

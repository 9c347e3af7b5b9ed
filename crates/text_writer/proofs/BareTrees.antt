-- What forms say for a verifier doesn't depend on where they stand: what forms without their places say is what they say,
-- without its places.
use Rattle.std.proofs.Common.{◌≡◌, ℕ, refl, sym, ap, ◌∙◌, List, map, arith}
use Rattle.std.specs.Prelude.{Bool, true, false, codes, Option, option_map, Result, Ok, if◌then◌else◌}
use Rattle.std.proofs.lemmas.List.{map-append}
use Rattle.std.proofs.lemmas.Grind.{common_steps}
use Rattle.model.specs.lists.Syntax.{Position, Name}
use Rattle.text_reader.specs.declared.errors.Mistake.{Mistake}
use Rattle.text_reader.specs.declared.errors.Mistake.TheVariants as M
use Rattle.text_reader.specs.Lexemes.{Wrong, ◌>>=◌}
use Rattle.text_reader.specs.FormTrees.{FormTree, a_word, a_number, a_constant, a_binding, a_list, FormTrees, no_form, form_and}
use Rattle.text_reader.specs.Solid.{nowhere, placeless_name}
use Rattle.text_reader.specs.Grammar.{Listed, no, reads, list_of, head_of, headed_of, next_of, next_name_of}
use Rattle.text_writer.proofs.Bare.{bare, all_bare, bare_list, bared, both, either, each_bare, names_bare, list_bare, bare_next, next_bare, bare_named, next_name_bare, headed_bare, next_if_bare, place_bare, ended_bare}
use Rattle.text_reader.specs.SpecTrees.{SpecExprTree, SpecExprTrees, ModelTypeTree, SpecTree, AttrTree}
use Rattle.text_reader.specs.SpecGrammar.{is_empty, section_of, last_of, use_of, bits_model_of, model_type_of, model_types_of, last_model_of, has_cases, has_three, name_list_of, two_of, spec_expr_of, arguments_of, spec_exprs_of, switch_of, three_of, defs_of, pairs_of, pair_of, pair_in, last_expr_of, signature_of, signatures_of, form_of, begins_with_word, instantiation_of, attr_kind_of, attr_kinds_of, attr_of, state_of, macro_of, valued_of, variant_value_of, variant_values_of, model_value_of, model_of}
use Rattle.text_reader.specs.TermSpecGrammar.{once_of, with_section, with_part_of, with_parts_of, spec_of}
use Rattle.text_reader.specs.Verifying.{said_by, verification_of}
use Rattle.text_writer.specs.PlacelessTrees.{placeless_model_type, placeless_spec_expr, placeless_spec_exprs, placeless_spec, placeless_variant_value, placeless_model_value, placeless_model, placeless_signature, placeless_signatures, placeless_instantiation, placeless_attr_kind, placeless_attr, placeless_state, placeless_macro, placeless_tree}

-- ---- lists

-- by a test whether nothing is left
by_empty : {A B : Type 0} (g : A → B) (fs : FormTrees) (r s : Result A Wrong) (t u : Result B Wrong) → bared g r ≡ t → bared g s ≡ u
    → bared g (if is_empty fs then r else s) ≡ (if is_empty (all_bare fs) then t else u)
by_empty g fs r s t u e f = grind (arith, common_steps)

section_bare : (word : List ℕ) (m : Mistake) (f : FormTree) → bared bare_list (section_of word m f) ≡ section_of word m (bare f)
section_bare word m f = both bare_named bare_list (headed_of m f) (headed_of m (bare f)) _ _ (headed_bare m f) (λ h. either bare_list (reads h.0 word) _ _ _ _ refl refl)

last_bare : (m : Mistake) (l : Listed) → bared bare (last_of m l) ≡ last_of m (bare_list l)
last_bare m l = grind (arith, common_steps, both, bare_list, next_bare, all_bare, ended_bare)

abbrev bare_use : Name × List Name → Name × List Name
bare_use u = (placeless_name u.0, map placeless_name u.1)

use_bare : (f : FormTree) → bared bare_use (use_of f) ≡ use_of (bare f)
use_bare f = grind (arith, common_steps, both, bare, list_bare, bare_list, next_name_bare, all_bare, names_bare)

-- ---- types of models

bits_model_bare : (l : Listed) → bared placeless_model_type (bits_model_of l) ≡ bits_model_of (bare_list l)
bits_model_bare l =
    by_empty placeless_model_type l.parts _ _ _ _ refl
    (both bare placeless_model_type (last_of M.Width l) (last_of M.Width (bare_list l)) _ _ (last_bare M.Width l) (λ f. grind (arith, common_steps)))

model_type_bare : (f : FormTree) → bared placeless_model_type (model_type_of f) ≡ model_type_of (bare f)
model_type_bare f = grind (arith, common_steps, either, both, headed_bare, bits_model_bare)

model_types_bare : (fs : FormTrees) → bared (map placeless_model_type) (model_types_of fs) ≡ model_types_of (all_bare fs)
model_types_bare fs = each_bare placeless_model_type model_type_of model_type_of model_type_bare fs

last_model_bare : (l : Listed) → bared placeless_model_type (last_model_of l) ≡ last_model_of (bare_list l)
last_model_bare l = both bare placeless_model_type (last_of M.ModelType l) (last_of M.ModelType (bare_list l)) _ _ (last_bare M.ModelType l) model_type_bare

-- ---- expressions

-- the parts of what is said in two parts
module _ (defs other_defs : Result SpecExprTrees Wrong) (names other_names : Result (List Name) Wrong) (value other_value body other_body : Result SpecExprTree Wrong)
    (type other_type : Result ModelTypeTree Wrong) where
  two_bare : (op : Name) (p : Position) → bared placeless_spec_exprs defs ≡ other_defs → bared (map placeless_name) names ≡ other_names
      → bared placeless_spec_expr value ≡ other_value → bared placeless_spec_expr body ≡ other_body → bared placeless_model_type type ≡ other_type
      → bared placeless_spec_expr (two_of op defs names value body type p) ≡ two_of (placeless_name op) other_defs other_names other_value other_body other_type nowhere
  two_bare op p same_defs same_names same_value same_body same_type = grind (arith, common_steps, either, both)

mutual
  spec_expr_bare : (f : FormTree) → bared placeless_spec_expr (spec_expr_of f) ≡ spec_expr_of (bare f)
  spec_expr_bare (a_list fs p e) =
      by_empty placeless_spec_expr fs _ _ _ _ refl
      (both placeless_name placeless_spec_expr (head_of fs e) (head_of (all_bare fs) nowhere) _ _ (grind arith) (λ op.
      either placeless_spec_expr (has_cases op) _ _ _ _ (switch_bare op fs p e)
      (either placeless_spec_expr (has_three op) _ _ _ _ (three_bare op fs p e)
      (both placeless_spec_exprs placeless_spec_expr (arguments_of fs) (arguments_of (all_bare fs)) _ _ (arguments_bare fs) (λ args. refl)))))
  spec_expr_bare f = grind (arith, common_steps)

  arguments_bare : (fs : FormTrees) → bared placeless_spec_exprs (arguments_of fs) ≡ arguments_of (all_bare fs)
  arguments_bare no_form = refl
  arguments_bare (form_and f fs) = spec_exprs_bare fs

  spec_exprs_bare : (fs : FormTrees) → bared placeless_spec_exprs (spec_exprs_of fs) ≡ spec_exprs_of (all_bare fs)
  spec_exprs_bare no_form = refl
  spec_exprs_bare (form_and f fs) = grind (arith, common_steps, spec_expr_bare f, spec_exprs_bare fs, both, bare, all_bare)

  switch_bare : (op : Name) (fs : FormTrees) (p e : Position) → bared placeless_spec_expr (switch_of op fs p e) ≡ switch_of (placeless_name op) (all_bare fs) nowhere nowhere
  switch_bare op (form_and h (form_and f fs)) p e =
      both placeless_spec_expr placeless_spec_expr (spec_expr_of f) (spec_expr_of (bare f)) _ _ (spec_expr_bare f) (λ x.
      both placeless_spec_exprs placeless_spec_expr (pairs_of fs) (pairs_of (all_bare fs)) _ _ (pairs_bare fs) (λ xs. refl))
  switch_bare op _ p e = refl

  three_bare : (op : Name) (fs : FormTrees) (p e : Position) → bared placeless_spec_expr (three_of op fs p e) ≡ three_of (placeless_name op) (all_bare fs) nowhere nowhere
  three_bare op (form_and h (form_and f (form_and g no_form))) p e =
      two_bare (defs_of f) (defs_of (bare f)) (name_list_of f) (name_list_of (bare f)) (spec_expr_of f) (spec_expr_of (bare f)) (spec_expr_of g) (spec_expr_of (bare g))
      (model_type_of g) (model_type_of (bare g)) op p (defs_bare f) (grind (arith, both, list_bare, names_bare)) (spec_expr_bare f) (spec_expr_bare g) (model_type_bare g)
  three_bare op (form_and h (form_and f (form_and g (form_and more fs)))) p e = ap (no M.End) (sym (place_bare more))
  three_bare op _ p e = refl

  defs_bare : (f : FormTree) → bared placeless_spec_exprs (defs_of f) ≡ defs_of (bare f)
  defs_bare (a_list fs p e) = pairs_bare fs
  defs_bare _ = refl

  pairs_bare : (fs : FormTrees) → bared placeless_spec_exprs (pairs_of fs) ≡ pairs_of (all_bare fs)
  pairs_bare no_form = refl
  pairs_bare (form_and f fs) =
      both placeless_spec_expr placeless_spec_exprs (pair_of f) (pair_of (bare f)) _ _ (pair_bare f) (λ x. grind (arith, pairs_bare fs, both, all_bare))

  pair_bare : (f : FormTree) → bared placeless_spec_expr (pair_of f) ≡ pair_of (bare f)
  pair_bare (a_list fs p e) = pair_in_bare fs p
  pair_bare _ = refl

  pair_in_bare : (fs : FormTrees) (p : Position) → bared placeless_spec_expr (pair_in fs p) ≡ pair_in (all_bare fs) nowhere
  pair_in_bare (form_and f (form_and g no_form)) p =
      both placeless_spec_expr placeless_spec_expr (spec_expr_of f) (spec_expr_of (bare f)) _ _ (spec_expr_bare f) (λ x.
      both placeless_spec_expr placeless_spec_expr (spec_expr_of g) (spec_expr_of (bare g)) _ _ (spec_expr_bare g) (λ y. refl))
  pair_in_bare _ p = refl

last_expr_bare : (l : Listed) → bared placeless_spec_expr (last_expr_of l) ≡ last_expr_of (bare_list l)
last_expr_bare l = both bare placeless_spec_expr (last_of M.Expression l) (last_of M.Expression (bare_list l)) _ _ (last_bare M.Expression l) spec_expr_bare

-- ---- signatures

signature_bare : (f : FormTree) → bared placeless_signature (signature_of f) ≡ signature_of (bare f)
signature_bare f =
    both bare_list placeless_signature (list_of M.Signature f) (list_of M.Signature (bare f)) _ _ (list_bare M.Signature f) (λ l.
    both bare_next placeless_signature (next_of M.Signature l) (next_of M.Signature (bare_list l)) _ _ (next_bare M.Signature l) (λ a.
    both bare_list placeless_signature (section_of (codes "args") M.Signature a.0) (section_of (codes "args") M.Signature (bare a.0)) _ _ (section_bare (codes "args") M.Signature a.0) (λ args.
    both (map placeless_model_type) placeless_signature (model_types_of args.parts) (model_types_of (all_bare args.parts)) _ _ (model_types_bare args.parts) (λ types.
    both bare_next placeless_signature (next_of M.Signature a.1) (next_of M.Signature (bare_list a.1)) _ _ (next_bare M.Signature a.1) (λ r.
    both bare_list placeless_signature (section_of (codes "ret") M.Signature r.0) (section_of (codes "ret") M.Signature (bare r.0)) _ _ (section_bare (codes "ret") M.Signature r.0) (λ ret.
    both placeless_model_type placeless_signature (last_model_of ret) (last_model_of (bare_list ret)) _ _ (last_model_bare ret) (λ result.
    both bare placeless_signature (last_of M.Signature r.1) (last_of M.Signature (bare_list r.1)) _ _ (last_bare M.Signature r.1) (λ c.
    both bare_list placeless_signature (section_of (codes "canon") M.Signature c) (section_of (codes "canon") M.Signature (bare c)) _ _ (section_bare (codes "canon") M.Signature c) (λ canon.
    both placeless_model_type placeless_signature (last_model_of canon) (last_model_of (bare_list canon)) _ _ (last_model_bare canon) (λ canonical. refl))))))))))

signatures_bare : (fs : FormTrees) → bared (map placeless_signature) (signatures_of fs) ≡ signatures_of (all_bare fs)
signatures_bare fs = each_bare placeless_signature signature_of signature_of signature_bare fs

form_bare : (l : Listed) → bared placeless_signatures (form_of l) ≡ form_of (bare_list l)
form_bare l = grind (arith, common_steps, both, bare_list, next_name_bare, all_bare, signatures_bare)

-- by a test whether a word comes next
by_word : {A B : Type 0} (g : A → B) (fs : FormTrees) (r s : Result A Wrong) (t u : Result B Wrong) → bared g r ≡ t → bared g s ≡ u
    → bared g (if begins_with_word fs then r else s) ≡ (if begins_with_word (all_bare fs) then t else u)
by_word g fs r s t u e f = grind (arith, common_steps)

instantiation_bare : (l : Listed) → bared placeless_instantiation (instantiation_of l) ≡ instantiation_of (bare_list l)
instantiation_bare l =
    both bare_named placeless_instantiation (next_name_of l) (next_name_of (bare_list l)) _ _ (next_name_bare l) (λ n.
    by_word placeless_instantiation n.1.parts _ _ _ _ (grind (arith, common_steps, both, next_name_bare, ended_bare))
    (both (map placeless_signature) placeless_instantiation (signatures_of n.1.parts) (signatures_of (all_bare n.1.parts)) _ _ (signatures_bare n.1.parts) (λ ss. refl)))

-- ---- attributes

attr_kind_bare : (f : FormTree) → bared placeless_attr_kind (attr_kind_of f) ≡ attr_kind_of (bare f)
attr_kind_bare f = grind (arith, common_steps, both, headed_bare, next_name_bare, ended_bare, either)

attr_kinds_bare : (fs : FormTrees) → bared (map placeless_attr_kind) (attr_kinds_of fs) ≡ attr_kinds_of (all_bare fs)
attr_kinds_bare fs = each_bare placeless_attr_kind attr_kind_of attr_kind_of attr_kind_bare fs

-- attributes, behind the word that says whether they are a rule's
abbrev attr_by : Position → Bool × Listed → Result AttrTree Wrong
attr_by at r =
    next_name_of r.1 >>= (λ n. attr_kinds_of n.1.parts >>= (λ kinds. Ok (record { is_rule = r.0; name = n.0; kinds = kinds; at = at })))

attr_bare : (l : Listed) → bared placeless_attr (attr_of l) ≡ attr_of (bare_list l)
attr_bare l = (grind (arith, common_steps, both, next_name_bare, attr_kinds_bare)) ∙ ap (attr_by nowhere) (next_if_bare (codes "rule") l)

-- ---- states and macros

state_bare : (l : Listed) → bared placeless_state (state_of l) ≡ state_of (bare_list l)
state_bare l =
    both bare_named placeless_state (next_name_of l) (next_name_of (bare_list l)) _ _ (next_name_bare l) (λ n.
    both bare_next placeless_state (next_of M.StatePart n.1) (next_of M.StatePart (bare_list n.1)) _ _ (next_bare M.StatePart n.1) (λ t.
    both bare_list placeless_state (section_of (codes "type") M.StatePart t.0) (section_of (codes "type") M.StatePart (bare t.0)) _ _ (section_bare (codes "type") M.StatePart t.0) (λ type.
    both placeless_model_type placeless_state (last_model_of type) (last_model_of (bare_list type)) _ _ (last_model_bare type) (λ ty.
    both bare placeless_state (last_of M.StatePart t.1) (last_of M.StatePart (bare_list t.1)) _ _ (last_bare M.StatePart t.1) (λ d.
    both bare_list placeless_state (section_of (codes "default") M.StatePart d) (section_of (codes "default") M.StatePart (bare d)) _ _ (section_bare (codes "default") M.StatePart d) (λ default.
    both placeless_spec_expr placeless_state (last_expr_of default) (last_expr_of (bare_list default)) _ _ (last_expr_bare default) (λ x. refl)))))))

macro_bare : (is_spec : Bool) (l : Listed) → bared placeless_macro (macro_of is_spec l) ≡ macro_of is_spec (bare_list l)
macro_bare is_spec l =
    both bare_next placeless_macro (next_of M.Names l) (next_of M.Names (bare_list l)) _ _ (next_bare M.Names l) (λ f.
    both bare_use placeless_macro (use_of f.0) (use_of (bare f.0)) _ _ (use_bare f.0) (λ u.
    both placeless_spec_expr placeless_macro (last_expr_of f.1) (last_expr_of (bare_list f.1)) _ _ (last_expr_bare f.1) (λ body. refl)))

-- ---- models

valued_bare : (f : FormTree) → bared placeless_variant_value (valued_of f) ≡ valued_of (bare f)
valued_bare f =
    both bare_list placeless_variant_value (list_of M.Variant f) (list_of M.Variant (bare f)) _ _ (list_bare M.Variant f) (λ l.
    both bare_named placeless_variant_value (next_name_of l) (next_name_of (bare_list l)) _ _ (next_name_bare l) (λ n.
    both placeless_spec_expr placeless_variant_value (last_expr_of n.1) (last_expr_of (bare_list n.1)) _ _ (last_expr_bare n.1) (λ x. refl)))

variant_value_bare : (f : FormTree) → bared placeless_variant_value (variant_value_of f) ≡ variant_value_of (bare f)
variant_value_bare (a_word n) = refl
variant_value_bare (a_number z p) = valued_bare (a_number z p)
variant_value_bare (a_constant n p) = valued_bare (a_constant n p)
variant_value_bare (a_binding n f) = valued_bare (a_binding n f)
variant_value_bare (a_list fs p e) = valued_bare (a_list fs p e)

model_value_bare : (f : FormTree) → bared placeless_model_value (model_value_of f) ≡ model_value_of (bare f)
model_value_bare f =
    both bare_named placeless_model_value (headed_of M.ModelValue f) (headed_of M.ModelValue (bare f)) _ _ (headed_bare M.ModelValue f) (λ h.
    either placeless_model_value (reads h.0 (codes "type")) _ _ _ _
    (both placeless_model_type placeless_model_value (last_model_of h.1) (last_model_of (bare_list h.1)) _ _ (last_model_bare h.1) (λ t. refl))
    (either placeless_model_value (reads h.0 (codes "enum")) _ _ _ _
    (both (map placeless_variant_value) placeless_model_value (variant_values_of h.1.parts) (variant_values_of (all_bare h.1.parts)) _ _
    (each_bare placeless_variant_value variant_value_of variant_value_of variant_value_bare h.1.parts) (λ vs. refl))
    (grind (arith, common_steps, either placeless_model_value, both placeless_spec_expr placeless_model_value, bare_list, last_expr_bare))))

model_bare : (l : Listed) → bared placeless_model (model_of l) ≡ model_of (bare_list l)
model_bare l = grind (arith, common_steps, both, bare_list, next_name_bare, last_bare, bare, model_value_bare)

-- ---- specs of terms

once_bare : (o : Option SpecExprTrees) (l : Listed) → bared (option_map placeless_spec_exprs) (once_of o l) ≡ once_of (option_map placeless_spec_exprs o) (bare_list l)
once_bare o l = grind (arith, common_steps, both, all_bare, spec_exprs_bare)

with_section_bare : (s : SpecTree) (head : Name) (l : Listed) → bared placeless_spec (with_section s head l) ≡ with_section (placeless_spec s) (placeless_name head) (bare_list l)
with_section_bare s head l = grind (arith, common_steps, either, both, once_bare, map-append)

with_part_bare : (s : SpecTree) (f : FormTree) → bared placeless_spec (with_part_of s f) ≡ with_part_of (placeless_spec s) (bare f)
with_part_bare s f =
    both bare_named placeless_spec (headed_of M.SpecPart f) (headed_of M.SpecPart (bare f)) _ _ (headed_bare M.SpecPart f) (λ h. with_section_bare s h.0 h.1)

with_parts_bare : (s : SpecTree) (fs : FormTrees) → bared placeless_spec (with_parts_of s fs) ≡ with_parts_of (placeless_spec s) (all_bare fs)
with_parts_bare s no_form = refl
with_parts_bare s (form_and f fs) =
    both placeless_spec placeless_spec (with_part_of s f) (with_part_of (placeless_spec s) (bare f)) _ _ (with_part_bare s f) (λ t. with_parts_bare t fs)

spec_bare : (l : Listed) → bared placeless_spec (spec_of l) ≡ spec_of (bare_list l)
spec_bare l =
    both bare_next placeless_spec (next_of M.Names l) (next_of M.Names (bare_list l)) _ _ (next_bare M.Names l) (λ f.
    both bare_use placeless_spec (use_of f.0) (use_of (bare f.0)) _ _ (use_bare f.0) (λ u. grind (arith, common_steps, with_parts_bare)))

-- ---- whole trees

said_bare : (head : Name) (l : Listed) → bared placeless_tree (said_by head l) ≡ said_by (placeless_name head) (bare_list l)
said_bare head l =
    either placeless_tree (reads head (codes "spec")) _ _ _ _ (both placeless_spec placeless_tree (spec_of l) (spec_of (bare_list l)) _ _ (spec_bare l) (λ s. refl))
    (either placeless_tree (reads head (codes "model")) _ _ _ _ (both placeless_model placeless_tree (model_of l) (model_of (bare_list l)) _ _ (model_bare l) (λ m. refl))
    (either placeless_tree (reads head (codes "form")) _ _ _ _ (both placeless_signatures placeless_tree (form_of l) (form_of (bare_list l)) _ _ (form_bare l) (λ f. refl))
    (either placeless_tree (reads head (codes "instantiate")) _ _ _ _ (both placeless_instantiation placeless_tree (instantiation_of l) (instantiation_of (bare_list l)) _ _ (instantiation_bare l) (λ i. refl))
    (either placeless_tree (reads head (codes "attr")) _ _ _ _ (both placeless_attr placeless_tree (attr_of l) (attr_of (bare_list l)) _ _ (attr_bare l) (λ a. refl))
    (either placeless_tree (reads head (codes "state")) _ _ _ _ (both placeless_state placeless_tree (state_of l) (state_of (bare_list l)) _ _ (state_bare l) (λ s. refl))
    (either placeless_tree (reads head (codes "macro")) _ _ _ _ (both placeless_macro placeless_tree (macro_of false l) (macro_of false (bare_list l)) _ _ (macro_bare false l) (λ m. refl))
    (either placeless_tree (reads head (codes "spec_macro")) _ _ _ _ (both placeless_macro placeless_tree (macro_of true l) (macro_of true (bare_list l)) _ _ (macro_bare true l) (λ m. refl))
    refl)))))))

pub verification_bare : (f : FormTree) → bared placeless_tree (verification_of f) ≡ verification_of (bare f)
verification_bare f = grind (arith, common_steps, both, bare, headed_bare, said_bare)

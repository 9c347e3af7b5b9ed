-- What numbers stand for doesn't change with more layers than their own, so each stands for what was made.
use Rattle.std.proofs.Common.{◌≡◌, ℕ, zero, suc, ◌<◌, true, nat_lt, ◌&&◌, List, [], ◌∷◌, length, Option, Some, None, slice_get, refl, ap, ◌∙◌, arith, ltb-true}
use Rattle.std.proofs.lemmas.Bool.{and_parts}
use Rattle.std.proofs.lemmas.Option.{slice_get_within}
use Rattle.model.specs.sites.Sites.{SiteTerm}
use Rattle.model_questions.specs.Formulas as M
use Rattle.model_questions.specs.Forms as MF
use Rattle.spec_cases.specs.declared.formulas.Place.{Place}
use Rattle.spec_cases.specs.declared.formulas.Place.TheVariants as P
use Rattle.spec_cases.specs.declared.formulas.Word.{Word}
use Rattle.spec_cases.specs.declared.formulas.Word.TheVariants as W
use Rattle.spec_cases.specs.declared.formulas.Integer.{Integer}
use Rattle.spec_cases.specs.declared.formulas.Integer.TheVariants as I
use Rattle.spec_cases.specs.declared.formulas.Fact.{Fact}
use Rattle.spec_cases.specs.declared.formulas.Fact.TheVariants as F
use Rattle.spec_cases.specs.declared.formulas.Operand.{Operand}
use Rattle.spec_cases.specs.declared.formulas.Operand.TheVariants as O
use Rattle.spec_cases.specs.declared.formulas.WordNode.{WordNode}
use Rattle.spec_cases.specs.declared.formulas.WordNode.TheVariants as WN
use Rattle.spec_cases.specs.declared.formulas.IntegerNode.{IntegerNode}
use Rattle.spec_cases.specs.declared.formulas.IntegerNode.TheVariants as IN
use Rattle.spec_cases.specs.declared.formulas.FactNode.{FactNode}
use Rattle.spec_cases.specs.declared.formulas.FactNode.TheVariants as FN
use Rattle.spec_cases.specs.declared.formulas.Node.{Node}
use Rattle.spec_cases.specs.declared.formulas.Node.TheVariants as N
use Rattle.spec_cases.specs.declared.forms.Form.{Form}
use Rattle.spec_cases.specs.declared.forms.Form.TheVariants as Fo
use Rattle.spec_cases.specs.Arenas.{place_within, word_within, integer_within, fact_within, operand_within, operands_within, form_within, forms_within, node_within, AreOrdered}
use Rattle.spec_cases.specs.Namings.{Naming, operator_view, layer_of_place, word_of, integer_of, fact_of, operand_and, operands_of, form_of, forms_of, layer_of_word, layer_of_integer, layer_of_fact, IsNamed, Names}
use Rattle.spec_cases.specs.Standing.{place_by, word_by, integer_by, fact_by, fields_by, naming_at, naming_of}

-- two namings agree on the first numbers
record Agree (count : ℕ) (v w : Naming) : Type 0 where
  pub site : (n : ℕ) → v.site n ≡ w.site n
  pub place : (n : ℕ) → n < count → v.place n ≡ w.place n
  pub word : (n : ℕ) → n < count → v.word n ≡ w.word n
  pub integer : (n : ℕ) → n < count → v.integer n ≡ w.integer n
  pub fact : (n : ℕ) → n < count → v.fact n ≡ w.fact n
  pub fields : (n : ℕ) → n < count → v.fields n ≡ w.fields n

-- what a number has is made of earlier ones
abbrev IsWithin : ℕ → Option Node → Type 0
IsWithin count None = Unit {0}
IsWithin count (Some x) = node_within count x ≡ true

module _ (count : ℕ) (v w : Naming) (a : Agree count v w) where
  at_place : (n : ℕ) → nat_lt n count ≡ true → v.place n ≡ w.place n
  at_place n h = a.place n (ltb-true n count h)

  at_fields : (n : ℕ) → nat_lt n count ≡ true → v.fields n ≡ w.fields n
  at_fields n h = a.fields n (ltb-true n count h)

  place_same : (x : Place) → place_within count x ≡ true → layer_of_place v x ≡ layer_of_place w x
  place_same (P.Argument i) h = refl
  place_same (P.Site s) h = ap M.site_at (a.site s)
  place_same (P.Output s i) h = ap (λ t. M.output_at t i) (a.site s)
  place_same (P.VariantField p ty i k) h = ap (λ q. M.variant_field_at q ty.0 i.0 k) (at_place p.0 h)
  place_same (P.StructField p ty k) h = ap (λ q. M.struct_field_at q ty.0 k) (at_place p.0 h)

  word_same : (t : Word) → word_within count t ≡ true → word_of v t ≡ word_of w t
  word_same (W.Written n) h = refl
  word_same (W.At p width) h = ap (λ q. M.word_at q width) (at_place p.0 h)
  word_same (W.Made n) h = a.word n.0 (ltb-true n.0 count h)

  integer_same : (z : Integer) → integer_within count z ≡ true → integer_of v z ≡ integer_of w z
  integer_same (I.Written z) h = refl
  integer_same (I.At p) h = ap M.integer_at (at_place p.0 h)
  integer_same (I.Made n) h = a.integer n.0 (ltb-true n.0 count h)

  fact_same : (f : Fact) → fact_within count f ≡ true → fact_of v f ≡ fact_of w f
  fact_same (F.Known b) h = refl
  fact_same (F.At p) h = ap M.truth_at (at_place p.0 h)
  fact_same (F.AsWide p width) h = ap (λ q. M.as_wide q width) (at_place p.0 h)
  fact_same (F.IsKind p i) h = ap (λ q. M.is_kind q i.0) (at_place p.0 h)
  fact_same (F.Made n) h = a.fact n.0 (ltb-true n.0 count h)

  operand_same : (o : Operand) (rest : M.Operands) → operand_within count o ≡ true → operand_and v o rest ≡ operand_and w o rest
  operand_same (O.Fact f) rest h = ap (λ g. M.fact_and g rest) (fact_same f h)
  operand_same (O.Integer z) rest h = ap (λ y. M.integer_and y rest) (integer_same z h)
  operand_same (O.Word width t) rest h = ap (λ u. M.word_and width u rest) (word_same t h)

  operands_same : (of : List Operand) → operands_within count of ≡ true → operands_of v of ≡ operands_of w of
  operands_same [] h = refl
  operands_same (o ∷ of) h =
      let both = and_parts (operand_within count o) (operands_within count of) h in
      ap (operand_and v o) (operands_same of both.1) ∙ operand_same o (operands_of w of) both.0

  form_same : (f : Form) → form_within count f ≡ true → form_of v f ≡ form_of w f
  form_same (Fo.Fact f) h = ap MF.a_fact (fact_same f h)
  form_same (Fo.Integer z) h = ap MF.an_integer_by (integer_same z h)
  form_same (Fo.Word width t) h = ap (MF.a_word_by width) (word_same t h)
  form_same (Fo.Variant ty i fs) h = ap (MF.variant_by ty.0 i.0) (at_fields fs.0 h)
  form_same (Fo.Struct ty fs) h = ap (MF.struct_by ty.0) (at_fields fs.0 h)
  form_same (Fo.AnyOf ty p) h = ap (MF.any_of ty.0) (at_place p.0 h)
  form_same (Fo.SomeAt p) h = ap MF.some_at (at_place p.0 h)

  forms_same : (fs : List Form) → forms_within count fs ≡ true → forms_of v fs ≡ forms_of w fs
  forms_same [] h = refl
  forms_same (f ∷ fs) h =
      let both = and_parts (form_within count f) (forms_within count fs) h in
      ap (λ x. MF.form_and x (forms_of v fs)) (form_same f both.0) ∙ ap (MF.form_and (form_of w f)) (forms_same fs both.1)

  word_layer_same : (x : WordNode) → node_within count (N.Word x) ≡ true → layer_of_word v x ≡ layer_of_word w x
  word_layer_same (WN.By o of) h = ap (M.word_by (operator_view o)) (operands_same of.items h)
  word_layer_same (WN.Answered f of) h = ap (M.word_answered f) (operands_same of.items h)
  word_layer_same (WN.Either f b c) h =
      let all = and_parts (fact_within count f && word_within count b) (word_within count c) h in
      let both = and_parts (fact_within count f) (word_within count b) all.0 in
      ap (λ g. M.either_word g (word_of v b) (word_of v c)) (fact_same f both.0) ∙ ap (λ t. M.either_word (fact_of w f) t (word_of v c)) (word_same b both.1)
      ∙ ap (M.either_word (fact_of w f) (word_of w b)) (word_same c all.1)

  integer_layer_same : (x : IntegerNode) → node_within count (N.Integer x) ≡ true → layer_of_integer v x ≡ layer_of_integer w x
  integer_layer_same (IN.By o of) h = ap (M.integer_by (operator_view o)) (operands_same of.items h)
  integer_layer_same (IN.Answered f of) h = ap (M.integer_answered f) (operands_same of.items h)
  integer_layer_same (IN.Either f b c) h =
      let all = and_parts (fact_within count f && integer_within count b) (integer_within count c) h in
      let both = and_parts (fact_within count f) (integer_within count b) all.0 in
      ap (λ g. M.either_integer g (integer_of v b) (integer_of v c)) (fact_same f both.0) ∙ ap (λ t. M.either_integer (fact_of w f) t (integer_of v c)) (integer_same b both.1)
      ∙ ap (M.either_integer (fact_of w f) (integer_of w b)) (integer_same c all.1)

  two_facts_same : (join : M.Fact → M.Fact → M.Fact) (b c : Fact) → (fact_within count b && fact_within count c) ≡ true → join (fact_of v b) (fact_of v c) ≡ join (fact_of w b) (fact_of w c)
  two_facts_same join b c h =
      let both = and_parts (fact_within count b) (fact_within count c) h in
      ap (λ g. join g (fact_of v c)) (fact_same b both.0) ∙ ap (join (fact_of w b)) (fact_same c both.1)

  fact_layer_same : (x : FactNode) → node_within count (N.Fact x) ≡ true → layer_of_fact v x ≡ layer_of_fact w x
  fact_layer_same (FN.By o of) h = ap (M.fact_by (operator_view o)) (operands_same of.items h)
  fact_layer_same (FN.Answered f of) h = ap (M.fact_answered f) (operands_same of.items h)
  fact_layer_same (FN.Both b c) h = two_facts_same M.both_facts b c h
  fact_layer_same (FN.One b c) h = two_facts_same M.one_fact b c h
  fact_layer_same (FN.No b) h = ap M.no_fact (fact_same b h)
  fact_layer_same (FN.Same b c) h = two_facts_same M.same_facts b c h

  -- one layer more
  place_by_same : (o : Option Node) → IsWithin count o → place_by v o ≡ place_by w o
  place_by_same None h = refl
  place_by_same (Some (N.Place x)) h = place_same x h
  place_by_same (Some (N.Word x)) h = refl
  place_by_same (Some (N.Integer x)) h = refl
  place_by_same (Some (N.Fact x)) h = refl
  place_by_same (Some (N.Fields x)) h = refl

  word_by_same : (o : Option Node) → IsWithin count o → word_by v o ≡ word_by w o
  word_by_same None h = refl
  word_by_same (Some (N.Place x)) h = refl
  word_by_same (Some (N.Word x)) h = word_layer_same x h
  word_by_same (Some (N.Integer x)) h = refl
  word_by_same (Some (N.Fact x)) h = refl
  word_by_same (Some (N.Fields x)) h = refl

  integer_by_same : (o : Option Node) → IsWithin count o → integer_by v o ≡ integer_by w o
  integer_by_same None h = refl
  integer_by_same (Some (N.Place x)) h = refl
  integer_by_same (Some (N.Word x)) h = refl
  integer_by_same (Some (N.Integer x)) h = integer_layer_same x h
  integer_by_same (Some (N.Fact x)) h = refl
  integer_by_same (Some (N.Fields x)) h = refl

  fact_by_same : (o : Option Node) → IsWithin count o → fact_by v o ≡ fact_by w o
  fact_by_same None h = refl
  fact_by_same (Some (N.Place x)) h = refl
  fact_by_same (Some (N.Word x)) h = refl
  fact_by_same (Some (N.Integer x)) h = refl
  fact_by_same (Some (N.Fact x)) h = fact_layer_same x h
  fact_by_same (Some (N.Fields x)) h = refl

  fields_by_same : (o : Option Node) → IsWithin count o → fields_by v o ≡ fields_by w o
  fields_by_same None h = refl
  fields_by_same (Some (N.Place x)) h = refl
  fields_by_same (Some (N.Word x)) h = refl
  fields_by_same (Some (N.Integer x)) h = refl
  fields_by_same (Some (N.Fact x)) h = refl
  fields_by_same (Some (N.Fields x)) h = forms_same x.items h

fewer : (count n : ℕ) (v w : Naming) → n < suc count → Agree count v w → Agree n v w
fewer count n v w h a = record {
  site = a.site;
  place = λ m l. a.place m (omega arith);
  word = λ m l. a.word m (omega arith);
  integer = λ m l. a.integer m (omega arith);
  fact = λ m l. a.fact m (omega arith);
  fields = λ m l. a.fields m (omega arith);
}

module _ (site : ℕ → SiteTerm) (nodes : List Node) (ordered : AreOrdered nodes) where
  within : (n : ℕ) (o : Option Node) → slice_get nodes n ≡ o → IsWithin n o
  within n None e = tt
  within n (Some x) e = ordered n x e

  -- the first numbers need so many layers
  agree : (k : ℕ) → Agree k (naming_at site nodes k) (naming_at site nodes (suc k))
  agree zero = record {
    site = λ n. refl;
    place = λ n h. absurd (omega arith);
    word = λ n h. absurd (omega arith);
    integer = λ n h. absurd (omega arith);
    fact = λ n h. absurd (omega arith);
    fields = λ n h. absurd (omega arith);
  }
  agree (suc k) =
      let v = naming_at site nodes k in
      let w = naming_at site nodes (suc k) in
      let below : (n : ℕ) → n < suc k → Agree n v w = λ n h. fewer k n v w h (agree k) in
      record {
        site = λ n. refl;
        place = λ n h. place_by_same n v w (below n h) (slice_get nodes n) (within n (slice_get nodes n) refl);
        word = λ n h. word_by_same n v w (below n h) (slice_get nodes n) (within n (slice_get nodes n) refl);
        integer = λ n h. integer_by_same n v w (below n h) (slice_get nodes n) (within n (slice_get nodes n) refl);
        fact = λ n h. fact_by_same n v w (below n h) (slice_get nodes n) (within n (slice_get nodes n) refl);
        fields = λ n h. fields_by_same n v w (below n h) (slice_get nodes n) (within n (slice_get nodes n) refl);
      }

  named : (n : ℕ) (x : Node) → slice_get nodes n ≡ Some x → Agree n (naming_at site nodes (length nodes)) (naming_of site nodes) → IsNamed (naming_of site nodes) n x
  named n (N.Place x) e a = ap (place_by (naming_at site nodes (length nodes))) e ∙ place_same n _ _ a x (ordered n (N.Place x) e)
  named n (N.Word x) e a = ap (word_by (naming_at site nodes (length nodes))) e ∙ word_layer_same n _ _ a x (ordered n (N.Word x) e)
  named n (N.Integer x) e a = ap (integer_by (naming_at site nodes (length nodes))) e ∙ integer_layer_same n _ _ a x (ordered n (N.Integer x) e)
  named n (N.Fact x) e a = ap (fact_by (naming_at site nodes (length nodes))) e ∙ fact_layer_same n _ _ a x (ordered n (N.Fact x) e)
  named n (N.Fields x) e a = ap (fields_by (naming_at site nodes (length nodes))) e ∙ forms_same n _ _ a x.items (ordered n (N.Fields x) e)

  pub all_named : Names (naming_of site nodes) nodes
  all_named = record {
    named = λ n x e.
        let h = slice_get_within nodes n x e in
        named n x e (fewer (length nodes) n (naming_at site nodes (length nodes)) (naming_of site nodes) (omega arith) (agree (length nodes)));
  }

-- Rounds over fields, which join those of one place of equal sites.
use Rattle.std.proofs.Common.{◌≡◌, ◌≢◌, ◌⊎◌, ℕ, ◌<◌, ◌≤◌, suc, Bool, true, false, not, if◌then◌else◌, List, [], ◌∷◌, ◌++◌, map, Option, Some, None, flat_map, refl, sym, ap, ◌∙◌, subst, inl, inr, eqb-true, eq-eqb, arith}
use Rattle.std.specs.Prelude.{nat_eq}
use Rattle.std.specs.HashMap.{HashMap, get}
use Rattle.std.proofs.lemmas.Bool.{cases_Bool, cond-true, cond-false, and_parts, false≢true}
use Rattle.std.proofs.lemmas.Grind.{common_steps}
use Rattle.core_containers.specs.Partition.{IsPartition}
use Rattle.model.specs.sites.Sites.{SiteTerm}
use Rattle.model.proofs.Elements.{In, contains_from_in, in_from_contains, some_is, none_some, in_either, in_flat_map, map_in}
use Rattle.core_types.specs.declared.ids.VariantId.{VariantId}
use Rattle.core_rule_sets.specs.Verdicts.{class_head}
use Rattle.core_rule_sets.specs.FieldParts.{field_binding, part_of_head, HaveOneName, AreCongruent, JoinsMore, StandsFirst, JoinsFirst}
use Rattle.core_rule_sets.specs.contracts.trie_again.BindingPartialEq.TheImpl.{ghosts}
use Rattle.core_rule_sets.specs.declared.trie_again.Binding.{Binding}
use Rattle.core_rule_sets.specs.declared.trie_again.Binding.TheVariants as B
use Rattle.core_rule_sets.specs.declared.closure_classes.Part.{Part}
use Rattle.core_rule_sets.proofs.ClassHeads.{head_again}
use Rattle.core_rule_sets.proofs.SameBindings.{one_binding}

-- one binding is one field of one site
pub same_parts : (v w : Option VariantId) (s t i j : ℕ) → ghosts.eq (field_binding v s i) (field_binding w t j) ≡ true → (v ≡ w) × (s ≡ t) × (i ≡ j)
same_parts v w s t i j h = grind (arith, and_parts)

same_binding : (v : Option VariantId) (s i : ℕ) (q : Binding) → ghosts.eq (field_binding v s i) q ≡ true → field_binding v s i ≡ q
same_binding v s i q h = grind (arith, and_parts)

-- a binding that is put is found, and those before it
module _ {S : Type 0} (new old : HashMap Binding ℕ S) (key : Binding) (x : ℕ)
    (updates : (q : Binding) → get ghosts.eq new q ≡ (if ghosts.eq key q then Some x else get ghosts.eq old q)) where
  pub found_put : (k : Binding) → key ≡ k → get ghosts.eq new k ≡ Some x
  found_put k e = grind (arith, common_steps, one_binding key key refl)

  pub kept_put : (v : Option VariantId) (s i : ℕ) → key ≡ field_binding v s i → get ghosts.eq old (field_binding v s i) ≡ None
      → (q : Binding) (g : ℕ) → get ghosts.eq old q ≡ Some g → get ghosts.eq new q ≡ Some g
  kept_put v s i e none q g found = grind (arith, common_steps, same_binding v s i q, none_some g)

-- a first one that was met is a part of a class
pub record IsFirst (parts : List Part) (ks : List (List ℕ)) (q : Binding) (g : ℕ) : Type 0 where
  pub part : Part
  pub there : In parts part
  pub field : g ≡ part.field
  pub head : ℕ
  pub source : class_head ks head ≡ class_head ks part.source
  pub is : ghosts.eq (field_binding part.variant head part.place) q ≡ true

-- a round as far as these parts
pub record IsRound {S : Type 0} (parts done : List Part) (old ks : List (List ℕ)) (firsts : HashMap Binding ℕ S) (changed : Bool) : Type 0 where
  pub kept : HaveOneName old (class_head ks)
  pub least : (name : ℕ → SiteTerm) → AreCongruent parts name → HaveOneName old name → HaveOneName ks name
  pub known : (q : Binding) (g : ℕ) → get ghosts.eq firsts q ≡ Some g → IsFirst parts ks q g
  pub settled : changed ≡ false → (p : Part) → In done p → StandsFirst ks firsts p
  pub more : changed ≡ true → JoinsMore parts old ks

-- one part more
module _ {S : Type 0} (parts done : List Part) (old ks after : List (List ℕ)) (firsts next : HashMap Binding ℕ S) (changed : Bool) (p : Part) (there : In parts p)
    (so : IsRound parts done old ks firsts changed) (whole : IsPartition nat_eq ks)
    (kept : HaveOneName ks (class_head after))
    (least : (name : ℕ → SiteTerm) → HaveOneName ks name → ((g : ℕ) → get ghosts.eq firsts (part_of_head ks p) ≡ Some g → name g ≡ name p.field) → HaveOneName after name)
    (had : (q : Binding) (g : ℕ) → get ghosts.eq firsts q ≡ Some g → get ghosts.eq next q ≡ Some g)
    (added : (q : Binding) (g : ℕ) → get ghosts.eq next q ≡ Some g → (get ghosts.eq firsts q ≡ Some g) ⊎ ((ghosts.eq (part_of_head ks p) q ≡ true) × (g ≡ p.field))) where
  next_kept : HaveOneName old (class_head after)
  next_kept a b e = kept a b (so.kept a b e)

  next_least : (name : ℕ → SiteTerm) → AreCongruent parts name → HaveOneName old name → HaveOneName after name
  next_least name congruent named = least name before same
    where
      before : HaveOneName ks name
      before = so.least name congruent named

      same : (g : ℕ) → get ghosts.eq firsts (part_of_head ks p) ≡ Some g → name g ≡ name p.field
      same g e =
          let f = so.known (part_of_head ks p) g e in
          let s = same_parts f.part.variant p.variant f.head (class_head ks p.source) f.part.place p.place f.is in
          ap name f.field
          ∙ congruent f.part p (contains_from_in parts f.part f.there) (contains_from_in parts p there) s.0 s.2
          (before f.part.source p.source (sym f.source ∙ ap (class_head ks) s.1 ∙ head_again ks whole p.source))

  next_known : (q : Binding) (g : ℕ) → get ghosts.eq next q ≡ Some g → IsFirst parts after q g
  next_known q g e =
      elim (added q g e) [
        | inl f ↦ grind (arith, common_steps, so.known q g f)
        | inr n ↦ grind (arith, common_steps, head_again ks whole p.source)
      ]

  next_more : JoinsMore parts old ks → JoinsMore parts old after
  next_more m = grind (arith, common_steps)

  -- as far as no round is looked at
  pub joined_more : IsRound parts [] old after next false
  joined_more = record {
    kept = next_kept;
    least = next_least;
    known = next_known;
    settled = λ e q i. absurd i;
    more = λ e. absurd (false≢true e);
  }

  pub round_stays : (after ≡ ks) × StandsFirst after next p → IsRound parts (done ++ p ∷ []) old after next changed
  round_stays stayed = record {
    kept = next_kept;
    least = next_least;
    known = next_known;
    settled = λ e q i. elim (in_either done (p ∷ []) q i) [
      | inl j ↦ before q (so.settled e q j)
      | inr j ↦ elim j [ inl same ↦ subst (StandsFirst after next) same stayed.1 | inr n ↦ absurd n ]
    ];
    more = λ e. next_more (so.more e);
  }
    where
      before : (q : Part) → StandsFirst ks firsts q → StandsFirst after next q
      before q s = subst (λ l. StandsFirst l next q) (sym stayed.0) (record { first = s.first; found = had (part_of_head ks q) s.first s.found; same = s.same })

  pub round_changes : JoinsFirst ks after firsts p → IsRound parts (done ++ p ∷ []) old after next true
  round_changes j =
      let f = so.known (part_of_head ks p) j.first j.found in
      record {
        kept = next_kept;
        least = next_least;
        known = next_known;
        settled = λ e. absurd (false≢true (sym e));
        more = grind (arith, common_steps, contains_from_in parts f.part f.there, contains_from_in parts p there);
      }

-- at its end
pub round_settles : {S : Type 0} (parts : List Part) (old ks : List (List ℕ)) (firsts : HashMap Binding ℕ S) (changed : Bool) → IsRound parts parts old ks firsts changed → changed ≡ false
    → AreCongruent parts (class_head ks)
round_settles parts old ks firsts changed so e p q i j v w s = grind (arith, common_steps, in_from_contains parts p i, in_from_contains parts q j, some_is)

-- the number of pairs of parts that are in two classes
are_apart : List (List ℕ) → Part × Part → Bool
are_apart ks e = not (nat_eq (class_head ks e.0.field) (class_head ks e.1.field))

pairs : List Part → List (Part × Part)
pairs parts = flat_map (λ p. map (λ q. (p, q)) parts) parts

counted : List (List ℕ) → List (Part × Part) → ℕ
counted ks [] = 0
counted ks (e ∷ es) = if are_apart ks e then suc (counted ks es) else counted ks es

pub pairs_apart : List (List ℕ) → List Part → ℕ
pairs_apart ks parts = counted ks (pairs parts)

apart_means : (ks : List (List ℕ)) (e : Part × Part) → are_apart ks e ≡ true → class_head ks e.0.field ≢ class_head ks e.1.field
unfolding are_apart
apart_means ks e h same = false≢true (sym (ap not (eq-eqb (class_head ks e.0.field) (class_head ks e.1.field) same)) ∙ h)

means_apart : (ks : List (List ℕ)) (e : Part × Part) → class_head ks e.0.field ≢ class_head ks e.1.field → are_apart ks e ≡ true
unfolding are_apart
means_apart ks e n =
    elim (cases_Bool (nat_eq (class_head ks e.0.field) (class_head ks e.1.field))) [
      | inl t ↦ absurd (n (eqb-true (class_head ks e.0.field) (class_head ks e.1.field) t))
      | inr f ↦ ap not f
    ]

joined_means : (ks : List (List ℕ)) (e : Part × Part) → class_head ks e.0.field ≡ class_head ks e.1.field → are_apart ks e ≡ false
unfolding are_apart
joined_means ks e same = ap not (eq-eqb (class_head ks e.0.field) (class_head ks e.1.field) same)

module _ (before after : List (List ℕ)) (kept : HaveOneName before (class_head after)) where
  was_apart : (e : Part × Part) → are_apart after e ≡ true → are_apart before e ≡ true
  was_apart e h = means_apart before e (λ same. apart_means after e h (kept e.0.field e.1.field same))

  counted_within : (es : List (Part × Part)) → counted after es ≤ counted before es
  unfolding counted
  counted_within [] = omega arith
  counted_within (x ∷ es) =
      let rest = counted_within es in
      elim (cases_Bool (are_apart after x)) [
        | inl t ↦
            subst (λ n. n ≤ (if are_apart before x then suc (counted before es) else counted before es)) (sym (cond-true (are_apart after x) (suc (counted after es)) (counted after es) t))
            (subst (λ n. suc (counted after es) ≤ n) (sym (cond-true (are_apart before x) (suc (counted before es)) (counted before es) (was_apart x t))) (omega (arith, rest)))
        | inr f ↦
            subst (λ n. n ≤ (if are_apart before x then suc (counted before es) else counted before es)) (sym (cond-false (are_apart after x) (suc (counted after es)) (counted after es) f))
            (elim (cases_Bool (are_apart before x)) [
              | inl t ↦ subst (λ n. counted after es ≤ n) (sym (cond-true (are_apart before x) (suc (counted before es)) (counted before es) t)) (omega (arith, rest))
              | inr g ↦ subst (λ n. counted after es ≤ n) (sym (cond-false (are_apart before x) (suc (counted before es)) (counted before es) g)) rest
            ])
      ]

  counted_less : (es : List (Part × Part)) (e : Part × Part) → In es e → are_apart before e ≡ true → are_apart after e ≡ false → counted after es < counted before es
  unfolding counted
  counted_less [] e i h n = absurd i
  counted_less (x ∷ es) e (inl same) h n =
      let rest = counted_within es in
      let none : are_apart after x ≡ false = ap (are_apart after) same ∙ n in
      let one : are_apart before x ≡ true = ap (are_apart before) same ∙ h in
      subst (λ m. m < (if are_apart before x then suc (counted before es) else counted before es)) (sym (cond-false (are_apart after x) (suc (counted after es)) (counted after es) none))
      (subst (λ m. counted after es < m) (sym (cond-true (are_apart before x) (suc (counted before es)) (counted before es) one)) (omega (arith, rest)))
  counted_less (x ∷ es) e (inr i) h n =
      let rest = counted_less es e i h n in
      elim (cases_Bool (are_apart after x)) [
        | inl t ↦
            subst (λ m. m < (if are_apart before x then suc (counted before es) else counted before es)) (sym (cond-true (are_apart after x) (suc (counted after es)) (counted after es) t))
            (subst (λ m. suc (counted after es) < m) (sym (cond-true (are_apart before x) (suc (counted before es)) (counted before es) (was_apart x t))) (omega (arith, rest)))
        | inr f ↦
            subst (λ m. m < (if are_apart before x then suc (counted before es) else counted before es)) (sym (cond-false (are_apart after x) (suc (counted after es)) (counted after es) f))
            (elim (cases_Bool (are_apart before x)) [
              | inl t ↦ subst (λ m. counted after es < m) (sym (cond-true (are_apart before x) (suc (counted before es)) (counted before es) t)) (omega (arith, rest))
              | inr g ↦ subst (λ m. counted after es < m) (sym (cond-false (are_apart before x) (suc (counted before es)) (counted before es) g)) rest
            ])
      ]

  -- a round that joins parts lessens it
  pub fewer_apart : (parts : List Part) → JoinsMore parts before after → pairs_apart after parts < pairs_apart before parts
  unfolding pairs pairs_apart
  fewer_apart parts m =
      let i = in_from_contains parts m.first m.first_there in
      let j = in_from_contains parts m.second m.second_there in
      counted_less (pairs parts) (m.first, m.second)
      (in_flat_map (λ p. map (λ q. (p, q)) parts) parts m.first (m.first, m.second) i (map_in (λ q. (m.first, q)) parts m.second j))
      (means_apart before (m.first, m.second) m.apart) (joined_means after (m.first, m.second) m.joined)

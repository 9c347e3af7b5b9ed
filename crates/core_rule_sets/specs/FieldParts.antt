-- Fields of sites that must be equal, over the numbers of sites.
use Rattle.std.specs.Prelude.{◌≡◌, ◌≢◌, ℕ, ◌<◌, List, Option, Some, None, Contains, length, nat_eq, slice_get}
use Rattle.std.specs.HashMap.{HashMap, get}
use Rattle.core_containers.specs.Partition.{IsPartition}
use Rattle.laws_sites.specs.FieldLaws.{GivesField}
use Rattle.model.specs.sites.Sites.{Site, Constraint, is_variant, is_struct, SiteTerm, variant_field, struct_field, unfold_site}
use Rattle.model.specs.visits.Demands.{Demands}
use Rattle.core_types.specs.declared.ids.VariantId.{VariantId}
use Rattle.core_rule_sets.specs.SiteViews.{site_view}
use Rattle.core_rule_sets.specs.Verdicts.{class_head}
use Rattle.core_rule_sets.specs.contracts.trie_again.BindingPartialEq.TheImpl.{ghosts}
use Rattle.core_rule_sets.specs.declared.trie_again.Binding.{Binding}
use Rattle.core_rule_sets.specs.declared.trie_again.Binding.TheVariants as B
use Rattle.core_rule_sets.specs.declared.closure_classes.Part.{Part}

-- the field of a site, of a variant or of a struct, at a place
abbrev pub field_binding : Option VariantId → ℕ → ℕ → Binding
field_binding (Some variant) s place = B.MatchVariant s variant place
field_binding None s place = B.ExtractStruct s place

-- what a part is, as the field of the site by which its source's class goes
abbrev pub part_of_head : List (List ℕ) → Part → Binding
part_of_head ks p = field_binding p.variant (class_head ks p.source) p.place

-- sites of one class have one name
abbrev pub HaveOneName : {X : Type 0} → List (List ℕ) → (ℕ → X) → Type 0
HaveOneName ks name = (a b : ℕ) → class_head ks a ≡ class_head ks b → name a ≡ name b

-- parts of one form, at one place, of sites of one name have one name
abbrev pub AreCongruent : {X : Type 0} → List Part → (ℕ → X) → Type 0
AreCongruent parts name =
    (p q : Part) → Contains parts p → Contains parts q → p.variant ≡ q.variant → p.place ≡ q.place → name p.source ≡ name q.source → name p.field ≡ name q.field

-- the least classes that hold those before, and in which parts are congruent
pub record AreClosed (parts : List Part) (before after : List (List ℕ)) : Type 0 where
  pub partition : IsPartition nat_eq before
  pub kept : HaveOneName before (class_head after)
  pub congruent : AreCongruent parts (class_head after)
  pub least : (name : ℕ → SiteTerm) → AreCongruent parts name → HaveOneName before name → HaveOneName after name

-- two parts that were in two classes are in one
pub record JoinsMore (parts : List Part) (before after : List (List ℕ)) : Type 0 where
  pub first : Part
  pub second : Part
  pub first_there : Contains parts first
  pub second_there : Contains parts second
  pub apart : class_head before first.field ≢ class_head before second.field
  pub joined : class_head after first.field ≡ class_head after second.field

-- a part's first one stands for it: it is in one class with it
pub record StandsFirst {S : Type 0} (ks : List (List ℕ)) (firsts : HashMap Binding ℕ S) (p : Part) : Type 0 where
  pub first : ℕ
  pub found : get ghosts.eq firsts (part_of_head ks p) ≡ Some first
  pub same : class_head ks first ≡ class_head ks p.field

-- a part joins the first one that was met, which was in another class
pub record JoinsFirst {S : Type 0} (before after : List (List ℕ)) (firsts : HashMap Binding ℕ S) (p : Part) : Type 0 where
  pub first : ℕ
  pub found : get ghosts.eq firsts (part_of_head before p) ≡ Some first
  pub apart : class_head before first ≢ class_head before p.field
  pub joined : class_head after first ≡ class_head after p.field

-- the field of what a site stands for, of a variant or of a struct, at a place
abbrev pub field_term : Option VariantId → SiteTerm → ℕ → SiteTerm
field_term (Some variant) s place = variant_field s variant.0 place
field_term None s place = struct_field s place

-- a part is a field that the demands ask for
pub record IsPartOfSite (sites : List Site) (d : Demands) (p : Part) : Type 0 where
  pub source : p.source < length sites
  pub field : p.field < length sites
  pub is : unfold_site sites p.field ≡ field_term p.variant (unfold_site sites p.source) p.place
  pub given : GivesField d (unfold_site sites p.source) (unfold_site sites p.field)

-- parts are all fields that the demands ask for
pub record ArePartsOf (sites : List Site) (d : Demands) (parts : List Part) : Type 0 where
  pub each : (p : Part) → Contains parts p → IsPartOfSite sites d p
  pub all : (s x : SiteTerm) → GivesField d s x → (p : Part) × Contains parts p × (unfold_site sites p.source ≡ s) × (unfold_site sites p.field ≡ x)

-- a part is the field of a site at a place
pub record IsPartAt (sites : List Site) (s : ℕ) (form : Option VariantId) (i : ℕ) (p : Part) : Type 0 where
  pub source : p.source ≡ s
  pub variant : p.variant ≡ form
  pub place : p.place ≡ i
  pub field : slice_get sites p.field ≡ Some (site_view (field_binding form s i))

-- a part is a field of a site, of a form that has n of them
pub record IsFieldPart (sites : List Site) (s : ℕ) (form : Option VariantId) (n : ℕ) (p : Part) : Type 0 where
  pub source : p.source ≡ s
  pub variant : p.variant ≡ form
  pub place : p.place < n
  pub field : slice_get sites p.field ≡ Some (site_view (field_binding form s p.place))

-- a part is a field that a constraint gives a site
abbrev pub IsPartBy : List Site → ℕ → Constraint → Part → Type 0
IsPartBy sites s (is_variant ty k n) p = IsFieldPart sites s (Some (record { 0 = k })) n p
IsPartBy sites s (is_struct ty n) p = IsFieldPart sites s None n p
IsPartBy sites s _ p = ⊥

-- a part is a field that one of these constraints gives its site
abbrev pub IsPartOfAny : List Site → List (ℕ × Constraint) → Part → Type 0
IsPartOfAny sites constraints p = (c : ℕ × Constraint) × Contains constraints c × IsPartBy sites c.0 c.1 p

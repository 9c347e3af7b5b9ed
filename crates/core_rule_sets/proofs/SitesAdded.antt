-- Sites that are added one after another, and the fields that a constraint gives a site.
use Rattle.std.proofs.Common.{◌≡◌, ℕ, zero, suc, ◌+◌, ◌<◌, ◌≤◌, List, [], ◌∷◌, ◌++◌, length, map, All, Contains, refl, sym, ap, ap₂, ◌∙◌, subst, arith}
use Rattle.std.specs.Prelude.{Result, IfOk, if◌then◌else◌}
use Rattle.std.proofs.lemmas.List.{length_push, map-append}
use Rattle.std.proofs.lemmas.List.Elements.{All-push, All-weaker}
use Rattle.std.proofs.lemmas.Grind.{common_steps}
use Rattle.model.specs.lists.Names.{IsDistinct}
use Rattle.model.specs.sites.Sites.{Site, match_variant_site, extract_struct_site, Constraint, is_variant, is_struct, sources_of, SiteTerm, variant_field, struct_field, layer, unfold_site, fields_from, field_terms}
use Rattle.model.specs.visits.Demands.{has_site, with_sites}
use Rattle.model.specs.sites.RuleSets.{StandFor}
use Rattle.model.specs.sites.SetRules.{each_place}
use Rattle.model.proofs.Elements.{contains_from_in}
use Rattle.model.proofs.SitesMade.{once_with}
use Rattle.laws_sites.proofs.built.Unfolding.{SourcesFirst, layer_same}
use Rattle.core_rule_sets.specs.SiteTables.{AddsSite, AddsSites, AddsFields, HasSources, StandsFor}
use Rattle.core_rule_sets.proofs.FieldSites.{place_more}
use Rattle.core_rule_sets.proofs.SitesGrown.{added_stands}

with_sites_push : (ts xs : List SiteTerm) (x : SiteTerm) → with_sites ts (xs ++ x ∷ []) ≡ with_sites (with_sites ts xs) (x ∷ [])
with_sites_push ts [] x = refl
with_sites_push ts (y ∷ xs) x = with_sites_push (if has_site ts y then ts else ts ++ y ∷ []) xs x

pub same_all : (f g : ℕ → SiteTerm) (n : ℕ) (ns : List ℕ) → ((a : ℕ) → a < n → f a ≡ g a) → All (λ a. a < n) ns → map f ns ≡ map g ns
same_all f g n [] h w = refl
same_all f g n (a ∷ ns) h w =
    let l : a < n = w 0 a (omega arith) in
    ap₂ ◌∷◌ (h a l) (same_all f g n ns h (λ k d l. w (suc k) d (omega arith)))

-- one more
pub one_added : (before mid after : List Site) (bs : List Site) (ns : List ℕ) (b : Site) (n : ℕ) → AddsSites before mid bs ns → SourcesFirst mid
    → ((a : ℕ) → Contains (sources_of b) a → a < length before) → length mid ≤ length after
    → ((terms : List SiteTerm) → IsDistinct terms → StandFor mid terms → StandsFor mid after terms b n) → AddsSites before after (bs ++ b ∷ []) (ns ++ n ∷ [])
one_added before mid after bs ns b n added first below longer next terms once stand =
    let m = added terms once stand in
    let made = map (layer (unfold_site before)) bs in
    let k = next (with_sites terms made) (once_with terms made once) m.stand in
    let same : layer (unfold_site mid) b ≡ layer (unfold_site before) b =
    layer_same (unfold_site mid) (unfold_site before) b (λ a i. m.kept a (below a (contains_from_in (sources_of b) a i))) in
    let grown = map-append (layer (unfold_site before)) bs (b ∷ []) in
    let l = m.longer in
    record {
      stand = subst (StandFor after) (sym (ap (with_sites terms) grown ∙ with_sites_push terms made (layer (unfold_site before) b))) (subst (λ t. StandFor after (with_sites (with_sites terms made) (t ∷ []))) same k.stand);
      numbers =
          map-append (unfold_site after) ns (n ∷ [])
          ∙ ap₂ ◌++◌ (same_all (unfold_site after) (unfold_site mid) (length mid) ns k.kept m.within ∙ m.numbers) (ap (λ t. t ∷ []) (k.number ∙ same))
          ∙ sym grown;
      within = All-push (λ a. a < length after) ns n (All-weaker (λ a. a < length mid) (λ a. a < length after) (λ a h. omega arith) ns m.within) k.within;
      kept = λ s h. k.kept s (omega arith) ∙ m.kept s h;
      longer = omega arith;
    }

fields_are_from : (f : ℕ → SiteTerm) (g : SiteTerm → ℕ → SiteTerm) (b : ℕ → Site) (t : SiteTerm) → ((i : ℕ) → layer f (b i) ≡ g t i) → (i n : ℕ) → map (layer f) (each_place b i n) ≡ fields_from (g t) i n
fields_are_from f g b t h i zero = refl
fields_are_from f g b t h i (suc n) = ap₂ ◌∷◌ (h i) (fields_are_from f g b t h (suc i) n)

pub variant_terms : (f : ℕ → SiteTerm) (ty variant fields s : ℕ) → map (layer f) (each_place (match_variant_site s variant) 0 fields) ≡ field_terms (is_variant ty variant fields) (f s)
variant_terms f ty variant fields s = fields_are_from f (λ t i. variant_field t variant i) (match_variant_site s variant) (f s) (λ i. refl) 0 fields

pub struct_terms : (f : ℕ → SiteTerm) (ty fields s : ℕ) → map (layer f) (each_place (extract_struct_site s) 0 fields) ≡ field_terms (is_struct ty fields) (f s)
struct_terms f ty fields s = fields_are_from f (λ t i. struct_field t i) (extract_struct_site s) (f s) (λ i. refl) 0 fields

fields_added : (before after bs : List Site) (c : Constraint) (s : ℕ) (ns : List ℕ) → map (layer (unfold_site before)) bs ≡ field_terms c (unfold_site before s) → AddsSites before after bs ns → AddsFields before after c s ns
fields_added before after bs c s ns e h terms once stand = grind (arith, common_steps)

pub variant_fields_added : (before after : List Site) (ty variant fields s : ℕ) (ns : List ℕ) → AddsSites before after (each_place (match_variant_site s variant) 0 fields) ns → AddsFields before after (is_variant ty variant fields) s ns
variant_fields_added before after ty variant fields s ns =
    fields_added before after (each_place (match_variant_site s variant) 0 fields) (is_variant ty variant fields) s ns
    (variant_terms (unfold_site before) ty variant fields s)

pub struct_fields_added : (before after : List Site) (ty fields s : ℕ) (ns : List ℕ) → AddsSites before after (each_place (extract_struct_site s) 0 fields) ns → AddsFields before after (is_struct ty fields) s ns
struct_fields_added before after ty fields s ns =
    fields_added before after (each_place (extract_struct_site s) 0 fields) (is_struct ty fields) s ns
    (struct_terms (unfold_site before) ty fields s)

pub no_shorter_by : (mid after : List Site) (b : Site) (n : ℕ) → AddsSite mid after b n → length mid ≤ length after
no_shorter_by mid after b n h = grind (arith, common_steps, length_push mid b)

-- one more field
pub field_added : (f : ℕ → Site) (before mid after : List Site) (i : ℕ) (ns ns' : List ℕ) (n : ℕ) → AddsSites before mid (each_place f 0 i) ns → SourcesFirst mid
    → HasSources before (f i) → length before ≤ length mid → AddsSite mid after (f i) n → ns' ≡ ns ++ n ∷ []
    → (length before ≤ length after) × AddsSites before after (each_place f 0 (i + 1)) ns'
field_added f before mid after i ns ns' n added first below longer adds new =
    let l = no_shorter_by mid after (f i) n adds in
    let one = one_added before mid after (each_place f 0 i) ns (f i) n added first below l
    (λ terms once stand. added_stands mid terms first once stand (f i) (λ a c. let k = below a c in omega (arith, k, longer)) after n adds) in (
      omega arith,
      subst (λ ms. AddsSites before after (each_place f 0 (i + 1)) ms) (sym new)
          (subst (λ bs. AddsSites before after bs (ns ++ n ∷ [])) (sym (place_more f i)) one),
    )

pub weaker_ok : {T E : Type 0} (P Q : T → Type 0) (r : Result T E) → ((x : T) → P x → Q x) → IfOk r P → IfOk r Q
weaker_ok P Q r h p = grind (arith, common_steps)

-- A visit asks a call that may answer nothing only to answer, and the calls that a value unwraps are such calls.
use Rattle.std.proofs.Common.{◌≡◌, Bool, true, false, not, ◌&&◌, List, [], ◌∷◌, refl, ap, subst, inl, inr, ◌∙◌, arith}
use Rattle.std.proofs.lemmas.Grind.{common_steps}
use Rattle.model.specs.rules.Program.{Program, Kind, a_call, kind}
use Rattle.model.specs.sites.Sites.{Constraint, is_present, SiteTerm, extractor_call, constructor_call, some_part, SiteTerms}
use Rattle.model.specs.visits.Demands.{Demands, Visit, asking, equating, unwraps, unwraps_all, asking_all}
use Rattle.model.proofs.Elements.{In, in_from_contains, in_either}
use Rattle.laws_sites.proofs.Patterns.{by_field}
use Rattle.laws_sites.proofs.WithSites.{by_leaf, by_equating, Onward, AtEach, KeptWithSites, unwrapped_at_each}
use Rattle.laws_sites.specs.Followers.{AsksNothingElse}

-- whether a call of a term of this kind may answer nothing, in a pattern and in an expression
abbrev extractor_lacks : Kind → Bool
extractor_lacks (a_call flags infallible) = not flags.multi && not infallible
extractor_lacks _ = false

abbrev constructor_lacks : Kind → Bool
constructor_lacks (a_call flags infallible) = flags.partial
constructor_lacks _ = false

module _ (p : Program) where
  -- whether a site is such a call
  abbrev may_lack : SiteTerm → Bool
  may_lack (extractor_call t s) = extractor_lacks (kind p t)
  may_lack (constructor_call t ss i) = constructor_lacks (kind p t)
  may_lack _ = false

  -- a site that isn't one, and what it unwraps is
  abbrev pub IsPlain : Demands → SiteTerm → Type 0
  IsPlain d u = (may_lack u ≡ false) × ((s : SiteTerm) → In (unwraps u) s → may_lack s ≡ true)

  -- so far
  abbrev pub IsQuiet : Demands → Type 0
  IsQuiet d = (e : SiteTerm × Constraint) → In d.constraints e → may_lack e.0 ≡ true → e.1 ≡ is_present

  abbrev OnwardQuiet : Demands → Demands → Type 0
  OnwardQuiet = Onward IsQuiet IsPlain

  onward : (d e : Demands) → IsQuiet e → OnwardQuiet d e
  onward d e h = record { holds = h; stays = λ s o. o }

  after_asking_all : (ss : List SiteTerm) (v : Visit) → IsQuiet v.demands → IsQuiet (asking_all ss v).demands
  after_asking_all [] v h = h
  after_asking_all (s ∷ ss) v h = after_asking_all ss (asking s is_present v) (grind (arith, in_either))

  -- each call that these unwrap may answer nothing, and so does one whose answer is taken
  all_unwrapped : (d : Demands) (us : SiteTerms) → AtEach IsQuiet IsPlain d us → (s : SiteTerm) → In (unwraps_all us) s → may_lack s ≡ true
  all_unwrapped d = unwrapped_at_each IsQuiet IsPlain (λ s. may_lack s ≡ true) d (λ u m. m.1)

  part_plain : (d : Demands) (call : SiteTerm) → may_lack call ≡ true → ((s : SiteTerm) → In (unwraps call) s → may_lack s ≡ true) → IsPlain d (some_part call)
  part_plain d call e deep = (refl, λ s i. elim i [ inl q ↦ subst (λ x. may_lack x ≡ true) q e | inr j ↦ deep s j ])

  pub quiet_kept : KeptWithSites IsQuiet IsPlain p
  quiet_kept = record {
    unbound = λ d. (refl, λ s i. absurd i);
    leaf = λ d s l n. by_leaf (IsPlain d) (λ i. (refl, λ s k. absurd k)) (λ b ty. (refl, λ s k. absurd k)) (λ z ty. (refl, λ s k. absurd k)) (λ name. (refl, λ s k. absurd k)) s l;
    variant = λ d ty variant us n m. (refl, all_unwrapped d us m);
    struct = λ d ty us n m. (refl, all_unwrapped d us m);
    result = λ d s n m. (refl, m.1);
    tuple = λ d s i n m. (refl, m.1);
    field = λ d c s x n a i m. by_field (IsPlain d) s (λ variant j. (refl, m.1)) (λ j. (refl, m.1)) c x i;
    extracted = λ d t s flags e f n m. (ap extractor_lacks e ∙ ap (λ b. not b && false) f, m.1);
    answer = λ d t i us flags b e f c n m. part_plain d (constructor_call t us i) (ap constructor_lacks e ∙ f) (all_unwrapped d us m);
    pick = λ d t i us c n m. (refl, all_unwrapped d us m);
    call = λ d t i us flags b e f g n m. (ap constructor_lacks e ∙ f, all_unwrapped d us m);
    counts = λ c v h. record { holds = h; stays = λ s m. m };
    makes = λ ts v h. record { holds = h; stays = λ s m. m };
    calls = λ s v h m. record { holds = h; stays = λ u o. o };
    equates = λ a b v h m n. onward v.demands (equating a b v).demands (by_equating (λ w. IsQuiet w.demands) a b v h h);
    asks = λ s c v f h m. onward v.demands (asking s c v).demands (grind (arith, in_either));
    asks_all = λ s v h m. onward v.demands (asking_all (unwraps s) v).demands (after_asking_all (unwraps s) v h);
    asks_call = grind (arith, common_steps, onward, part_plain, in_either);
    iterates_extractor = λ t s v flags b e f c n h m. record { onward = record { holds = h; stays = λ u o. o }; site = (refl, m.1) };
    iterates_constructor = λ t i us v flags b e f n m h. record { holds = h; stays = λ u o. o };
  }

  pub asks_nothing_else : (v : Visit) (u : SiteTerm) → IsQuiet v.demands → IsPlain v.demands u → AsksNothingElse v u
  asks_nothing_else v u h o call c i j = h (call, c) (in_from_contains v.demands.constraints (call, c) j) (o.1 call (in_from_contains (unwraps u) call i))

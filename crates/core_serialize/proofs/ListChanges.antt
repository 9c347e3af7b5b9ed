-- Lists of what stands around a place that grow and are cut again.
use Rattle.std.proofs.Common.{◌≡◌, ◌==◌, ℕ, true, List, [], ◌++◌, Contains, get_or, length, take, refl, sym, ap, ◌∙◌, subst, arith}
use Rattle.std.specs.List.{remove}
use Rattle.std.proofs.lemmas.Bool.{or_left}
use Rattle.std.proofs.lemmas.List.{append_assoc, append-nil, take_at}
use Rattle.std.proofs.lemmas.Grind.{common_steps}
use Rattle.model.specs.sites.Sites.{SiteSet}
use Rattle.model.specs.trees.Places.{is_in, joins}
use Rattle.core_containers.specs.Places.{Extends}
use Rattle.core_serialize.specs.declared.around.Around.{Around}
use Rattle.core_serialize.specs.declared.around.Mark.{Mark}
use Rattle.core_serialize.specs.declared.around.Renamed.{Renamed}
use Rattle.core_serialize.specs.AroundViews.{around_view, names_before, Alike, after_uses, where_emitted, where_joined, AreEmitted, NamesClasses}
use Rattle.core_serialize.specs.Changes.{Emits, Goes, IsBack, IsCutBack, IsKept, IsMark, JoinsPair, TakesApart}
use Rattle.core_serialize.specs.Matches.{AreMatched}
use Rattle.core_serialize.proofs.MatchCounts.{raised_back, raised_same, same_itself, same_more, same_raised, still_matched}
use Rattle.core_serialize.proofs.Tables.{is_in_append}

-- 1. lists with more at their ends
pub extends_itself : (xs : List ℕ) → Extends xs xs
extends_itself xs = ([], sym (append-nil xs))

extends_same : (xs ys : List ℕ) → ys ≡ xs → Extends xs ys
extends_same xs ys e = ([], e ∙ sym (append-nil xs))

extends_more : (xs ys zs : List ℕ) → Extends xs ys → Extends ys zs → Extends xs zs
extends_more xs ys zs e f = (e.0 ++ f.0, f.1 ∙ ap (λ l. l ++ f.0) e.1 ∙ append_assoc xs e.0 f.0)

cut_back : (xs ys zs : List ℕ) (n : ℕ) → n ≡ length xs → Extends xs ys → zs ≡ take n ys → zs ≡ xs
cut_back xs ys zs n m e c = c ∙ ap (λ k. take k ys) m ∙ ap (take (length xs)) e.1 ∙ take_at xs e.0 (length xs) refl

pub extended_in : (xs ys : List ℕ) (s : ℕ) → Extends xs ys → is_in s xs ≡ true → is_in s ys ≡ true
extended_in xs ys s e h = ap (is_in s) e.1 ∙ is_in_append s xs e.0 ∙ or_left (is_in s xs) (is_in s e.0) h

-- 2. what stands around a place
pub back_itself : (a : Around) → IsBack a a
back_itself a = record { sources = refl; joined = refl; brought = refl; emitted = refl; closed = refl; names = refl; matched = same_itself a.matched }

pub back_more : (a b c : Around) → IsBack a b → IsBack b c → IsBack a c
back_more a b c h k = grind (arith, common_steps, same_more a.matched b.matched c.matched h.matched k.matched)

pub emits_itself : (a : Around) → Emits a a
emits_itself a = record { sources = refl; joined = refl; brought = refl; emitted = extends_itself a.emitted; closed = extends_itself a.closed; names = refl; matched = same_itself a.matched }

pub emits_more : (a b c : Around) → Emits a b → Emits b c → Emits a c
emits_more a b c h k = record {
  sources = k.sources ∙ h.sources;
  joined = k.joined ∙ h.joined;
  brought = k.brought ∙ h.brought;
  emitted = extends_more a.emitted b.emitted c.emitted h.emitted k.emitted;
  closed = extends_more a.closed b.closed c.closed h.closed k.closed;
  names = k.names ∙ h.names;
  matched = same_more a.matched b.matched c.matched h.matched k.matched;
}

pub emits_back : (a b c : Around) → Emits a b → IsBack b c → Emits a c
emits_back a b c h k = grind (arith, common_steps, same_more a.matched b.matched c.matched h.matched k.matched)

-- cut to where they were
pub emits_cut : (a b c : Around) (m : Mark) → IsMark a m → Emits a b → IsCutBack b m c → IsBack a c
emits_cut a b c m k h t = record {
  sources = cut_back a.sources b.sources c.sources m.sources k.sources (extends_same a.sources b.sources h.sources) t.sources;
  joined = t.joined ∙ h.joined;
  brought = cut_back a.brought b.brought c.brought m.brought k.brought (extends_same a.brought b.brought h.brought) t.brought;
  emitted = cut_back a.emitted b.emitted c.emitted m.emitted k.emitted h.emitted t.emitted;
  closed = cut_back a.closed b.closed c.closed m.closed k.closed h.closed t.closed;
  names = t.names ∙ h.names;
  matched = raised_back a.matched b.matched c.matched m.raised k.raised (same_raised a.matched b.matched h.matched) t.matched;
}

pub goes_cut : (a b c d : Around) (m : Mark) → IsMark a m → Goes a b → IsBack b c → IsCutBack c m d → IsBack a d
goes_cut a b c d m k h r t = record {
  sources = cut_back a.sources c.sources d.sources m.sources k.sources (subst (Extends a.sources) (sym r.sources) h.sources) t.sources;
  joined = t.joined ∙ r.joined ∙ h.joined;
  brought = cut_back a.brought c.brought d.brought m.brought k.brought (subst (Extends a.brought) (sym r.brought) h.brought) t.brought;
  emitted = cut_back a.emitted c.emitted d.emitted m.emitted k.emitted (subst (Extends a.emitted) (sym r.emitted) h.emitted) t.emitted;
  closed = cut_back a.closed c.closed d.closed m.closed k.closed (subst (Extends a.closed) (sym r.closed) h.closed) t.closed;
  names = t.names ∙ r.names ∙ h.names;
  matched = raised_back a.matched c.matched d.matched m.raised k.raised (raised_same a.matched b.matched c.matched h.matched r.matched) t.matched;
}

-- where nothing is joined, nothing is named
pub no_names : (a : Around) → a.joined.items ≡ [] → a.names.items ≡ [] → NamesClasses a.joined.items a.names.items
no_names a j n s t = ap (λ l. get_or l s s == get_or l t t) n ∙ sym (ap (λ ps. joins ps s t) j)

-- names stay those of the same pairs
pub still_named : (a b : Around) → b.joined.items ≡ a.joined.items → b.names.items ≡ a.names.items → NamesClasses a.joined.items a.names.items → NamesClasses b.joined.items b.names.items
still_named a b j n h s t = ap (λ l. get_or l s s == get_or l t t) n ∙ h s t ∙ sym (ap (λ ps. joins ps s t) j)

-- closed sites stay emitted
pub kept_back : (set : SiteSet) (a b : Around) → IsBack a b → IsKept set a → IsKept set b
kept_back set a b h k = record {
  closed = record { whole = λ s x c u. subst (λ l. Contains l x) (sym h.closed) (k.closed.whole s x (subst (λ l. Contains l s) h.closed c) u) };
  within = λ s e. ap (is_in s) h.emitted ∙ k.within s (sym (ap (is_in s) h.closed) ∙ e);
  named = still_named a b h.joined h.names k.named;
  matched = still_matched set.rules a.matched.counts.items b.matched.counts.items a.sources b.sources h.matched.counts (λ s e. ap (is_in s) h.sources ∙ e) k.matched;
}

-- and where more is around, if the counts of rules hold
pub kept_goes : (set : SiteSet) (a b : Around) → Extends a.sources b.sources → Extends a.emitted b.emitted → b.closed ≡ a.closed → b.joined.items ≡ a.joined.items → b.names.items ≡ a.names.items
    → AreMatched set.rules b.matched.counts.items b.sources → IsKept set a → IsKept set b
kept_goes set a b sources emitted q j n m k = grind (arith, common_steps, extended_in a.emitted b.emitted, still_named a b j n k.named)

-- 3. what is said of it
pub same_view : (a b : Around) → IsBack a b → around_view b ≡ around_view a
same_view a b h = grind (arith, common_steps)

pub emits_view : (a b : Around) → Emits a b → around_view b ≡ where_emitted (around_view a) b.emitted
emits_view a b h = grind (arith, common_steps)

pub emits_alike : (set : SiteSet) (a b : Around) (used : List ℕ) → Emits a b → AreEmitted set (around_view a) used b.emitted → Alike (around_view b) (after_uses set (around_view a) used)
emits_alike set a b used h k = record { sources = λ s. ap (is_in s) h.sources; joined = h.joined; brought = λ s. ap (is_in s) h.brought; emitted = k }

-- one more pair
pub joined_view : (a b : Around) (x y : ℕ) → JoinsPair x y a b → around_view b ≡ where_joined (around_view a) x y
joined_view a b x y h = grind (arith, common_steps)

pub kept_joined : (set : SiteSet) (a b : Around) (x y : ℕ) → JoinsPair x y a b → IsKept set a → IsKept set b
kept_joined set a b x y h k = record {
  closed = record { whole = λ s z c u. subst (λ l. Contains l z) (sym h.closed) (k.closed.whole s z (subst (λ l. Contains l s) h.closed c) u) };
  within = λ s e. ap (is_in s) h.emitted ∙ k.within s (sym (ap (is_in s) h.closed) ∙ e);
  named = h.named;
  matched = still_matched set.rules a.matched.counts.items b.matched.counts.items a.sources b.sources h.matched.counts (λ s e. ap (is_in s) h.sources ∙ e) k.matched;
}

-- and taken apart again
pub joined_back : (a b c d : Around) (x y : ℕ) (r : Renamed) → JoinsPair x y a b → IsBack b c → names_before r b.names.items ≡ a.names.items → TakesApart r c d → IsBack a d
joined_back a b c d x y r h k n t = record {
  sources = t.sources ∙ k.sources ∙ h.sources;
  joined = t.joined ∙ ap (λ l. remove l 0) (k.joined ∙ h.joined);
  brought = t.brought ∙ k.brought ∙ h.brought;
  emitted = t.emitted ∙ k.emitted ∙ h.emitted;
  closed = t.closed ∙ k.closed ∙ h.closed;
  names = t.names ∙ ap (names_before r) k.names ∙ n;
  matched = same_more a.matched c.matched d.matched (same_more a.matched b.matched c.matched h.matched k.matched) t.matched;
}

-- What is read one after another, where it lies in memory.
use Rattle.std.proofs.Common.{◌≡◌, ℕ, ◌+◌, ◌<◌, List, [], ◌∷◌, ◌++◌, drop, get_or, length, map, refl, sym, ap, ◌∙◌, subst, arith, append_assoc, append-nil, chars, encode_utf8, encode_utf8_all, IsUtf8, String}
use Rattle.std.specs.Prelude.{true, false, Result, Ok, string_bytes}
use Rattle.std.proofs.lemmas.List.{map-append, nil_from_length}
use Rattle.std.proofs.lemmas.Str.{encodes-chars, encodes-append, chars_from_encodes, chars_past_char, chars-nil, IsUtf8-string_bytes}
use Rattle.std.proofs.Math.Seq.{drop-cons}
use Rattle.std.proofs.lemmas.Grind.{common_steps}
use Rattle.model.specs.lists.Syntax.{Definition}
use Rattle.core_syntax.specs.declared.syntax.Def.{Def}
use Rattle.core_syntax.specs.SyntaxViews.{definition_view, definition_views}
use Rattle.text_reader.specs.declared.forms.TextForm.{TextForm}
use Rattle.text_reader.specs.declared.errors.ReadFault.{ReadFault}
use Rattle.text_reader.specs.declared.errors.TextError.{TextError}
use Rattle.text_reader.specs.Lexemes.{Wrong, ◌>>=◌}
use Rattle.text_reader.specs.Pieces.{size, pieces_from}
use Rattle.text_reader.specs.Lexing.{Tokens, between, run}
use Rattle.text_reader.specs.Forming.{forms_of}
use Rattle.text_reader.specs.FormViews.{form_view, all_view}
use Rattle.text_reader.specs.Definitions.{definition_of}
use Rattle.text_reader.specs.Views.{Fails}
use Rattle.text_reader.specs.declared.chunks.CharacterPlace.{CharacterPlace}
use Rattle.text_reader.specs.declared.chunks.Chunk.{Chunk}
use Rattle.text_reader.specs.Chunks.{Part, begins_chunk, moved, empty_at, longer, next_parts, chunks_from}
use Rattle.text_reader.specs.Recovering.{Recovery, nothing, beside, one_of, each_by_itself, of_forms, tokens_of, forms_in_part, of_parts}
use Rattle.text_reader.specs.RecoveryViews.{part_view, part_views, wrong_view}
use Rattle.text_reader.proofs.Dividing.{divided_from}
use Rattle.text_reader.proofs.Only.{only}
use Rattle.text_reader.proofs.Running.{fails}

pub both_same : (ds bs : List Definition) (vs ws : List Wrong) → ds ≡ bs → vs ≡ ws → (let r : Recovery = record { definitions = ds; mistakes = vs } in let s : Recovery = record { definitions = bs; mistakes = ws } in r ≡ s)
both_same ds bs vs ws a v = ap (λ x. record { definitions = x; mistakes = vs }) a ∙ ap (λ x. record { definitions = bs; mistakes = x }) v

pub beside_assoc : (r s t : Recovery) → beside (beside r s) t ≡ beside r (beside s t)
beside_assoc r s t = both_same _ _ _ _ (append_assoc r.definitions s.definitions t.definitions) (append_assoc r.mistakes s.mistakes t.mistakes)

pub beside_nothing : (r : Recovery) → beside r nothing ≡ r
beside_nothing r = both_same _ _ _ _ (append-nil r.definitions) (append-nil r.mistakes)

-- one more chunk
pub chunk_read : (file : ℕ) (cs : List Chunk) (n : ℕ) (c : Chunk) (old new whole : Recovery) → n < length cs → c ≡ get_or cs n c → new ≡ beside old (of_forms (forms_in_part file (part_view c)))
    → beside old (of_parts file (part_views (drop n cs))) ≡ whole → beside new (of_parts file (part_views (drop (n + 1) cs))) ≡ whole
chunk_read file cs n c old new whole inside at_it grown so_far = grind (arith, common_steps, beside_assoc, drop-cons)

-- one more form
pub form_read : (fs : List TextForm) (n : ℕ) (f : TextForm) (old new whole : Recovery) → n < length fs → f ≡ get_or fs n f → new ≡ beside old (one_of (definition_of (form_view f)))
    → beside old (each_by_itself (all_view (drop n fs))) ≡ whole → beside new (each_by_itself (all_view (drop (n + 1) fs))) ≡ whole
form_read fs n f old new whole inside at_it grown so_far = grind (arith, common_steps, beside_assoc, drop-cons)

abbrev held : List Def → List TextError → Recovery
held ds es = record { definitions = definition_views ds; mistakes = map wrong_view es }

-- one more definition, or one more mistake
pub definition_added : (old new : List Def) (es fs : List TextError) (d : Def) (read : Result Definition Wrong) → new ≡ old ++ d ∷ [] → fs ≡ es → read ≡ Ok (definition_view d) → held new fs ≡ beside (held old es) (one_of read)
definition_added old new es fs d read n f h = grind (arith, common_steps, both_same, map-append)

pub mistake_added : (ds bs : List Def) (old new : List TextError) (e : TextError) → new ≡ old ++ e ∷ [] → bs ≡ ds → held bs new ≡ beside (held ds old) (record { definitions = []; mistakes = wrong_view e ∷ [] })
mistake_added ds bs old new e n b = grind (arith, common_steps, both_same, map-append)

-- ---- the forms of a chunk

module _ (file end o : ℕ) (text : List ℕ) (u : IsUtf8 text) (at_end : o + length text ≡ end) where
  abbrev part : Part
  part = record { at = o; text = chars text }

  long : o + size (chars text) ≡ end
  long = omega (arith, at_end, ap length (encodes-chars text u))

  tokens_are : run file end between o (chars text) [] ≡ tokens_of file part
  tokens_are = only file end (pieces_from (length (chars text)) o (chars text)) o (chars text) [] long (divided_from (length (chars text)) o (chars text) (omega arith))

  pub no_tokens_in : (fault : ReadFault) → Fails fault (run file end between o (chars text) []) → Fails fault (forms_in_part file part)
  no_tokens_in fault h = fails fault (tokens_of file part) (forms_of file (o + size (chars text))) _ refl (subst (Fails fault) tokens_are h)

  pub forms_are : (ts : Tokens) → run file end between o (chars text) [] ≡ Ok ts → forms_of file end ts ≡ forms_in_part file part
  forms_are ts h =
      sym (ap (λ r. r >>= forms_of file (o + size (chars text))) (sym tokens_are ∙ h)
      ∙ ap (λ e. forms_of file e ts) long)

-- ---- the chunks of a text, one character after another

pub chunk_kept : (place next : CharacterPlace) (last made empty : Part) (o there c n : ℕ) (bytes rest : List ℕ) (old new whole : List Part) → IsUtf8 bytes → bytes ≡ encode_utf8 c ++ rest
    → old ++ chunks_from place last o (chars bytes) ≡ whole → n ≡ o → there ≡ o + length (encode_utf8 c) → next ≡ moved place c → empty ≡ empty_at n
    → ((others : Part → List Part) → new ++ others made ≡ old ++ next_parts others place empty last c)
    → new ++ chunks_from next made there (chars rest) ≡ whole
chunk_kept place next last made empty o there c n bytes rest old new whole u e w at_it past next_is empty_is h =
    let others = λ (p : Part). chunks_from (moved place c) p (o + length (encode_utf8 c)) (chars rest) in
    ap (λ k. new ++ chunks_from next made k (chars rest)) past
    ∙ ap (λ x. new ++ chunks_from x made (o + length (encode_utf8 c)) (chars rest)) next_is
    ∙ h others
    ∙ ap (λ x. old ++ next_parts others place x last c) (empty_is ∙ ap empty_at at_it)
    ∙ ap (λ cs. old ++ chunks_from place last o cs) (sym (chars_past_char bytes rest c u e))
    ∙ w

pub chunks_ended : (place : CharacterPlace) (o : ℕ) (bytes : List ℕ) (old new : List Chunk) (last : Chunk) (whole : List Part) → length bytes ≡ 0 → new ≡ old ++ last ∷ []
    → part_views old ++ chunks_from place (part_view last) o (chars bytes) ≡ whole → part_views new ≡ whole
chunks_ended place o bytes old new last whole none n w = grind (arith, common_steps, map-append, nil_from_length, chars-nil)

-- a chunk that goes on, or begins
pub begun_next : (place : CharacterPlace) (c : ℕ) (empty last made : Part) (old new : List Part) → begins_chunk place c ≡ true → new ≡ old ++ last ∷ [] → made ≡ longer empty c
    → (others : Part → List Part) → new ++ others made ≡ old ++ next_parts others place empty last c
begun_next place c empty last made old new b n m others = grind (arith, common_steps)

pub gone_on : (place : CharacterPlace) (c : ℕ) (empty last made : Part) (old new : List Part) → begins_chunk place c ≡ false → new ≡ old → made ≡ longer last c
    → (others : Part → List Part) → new ++ others made ≡ old ++ next_parts others place empty last c
gone_on place c empty last made old new b n m others = grind (arith, common_steps)

-- ---- a chunk's text

pub emptied : {Z : Type 0} (o : ℕ) (s : String Z) → string_bytes s ≡ [] → (let p : Part = record { at = o; text = chars (string_bytes s) } in p ≡ empty_at o)
emptied o s e = ap (λ t. record { at = o; text = t }) (ap chars e ∙ chars-nil)

pub pushed : {Z : Type 0} (o : ℕ) (s t : String Z) (c : ℕ) → string_bytes t ≡ string_bytes s ++ encode_utf8 c
    → (let p : Part = record { at = o; text = chars (string_bytes s) } in let q : Part = record { at = o; text = chars (string_bytes t) } in q ≡ longer p c)
pushed o s t c e =
    ap (λ x. record { at = o; text = x })
    (sym (chars_from_encodes (chars (string_bytes s) ++ c ∷ []) (string_bytes t) (IsUtf8-string_bytes t)
    (encodes-append (chars (string_bytes s)) (c ∷ []) ∙ ap (λ x. encode_utf8_all (chars (string_bytes s)) ++ x) (append-nil (encode_utf8 c)) ∙ ap (λ x. x ++ encode_utf8 c) (encodes-chars (string_bytes s) (IsUtf8-string_bytes s)) ∙ sym e)))

-- The tokens of a text: what its pieces add, one after another, or the first that adds none. And how characters are read one at a time.
use Rattle.std.specs.Prelude.{ℕ, ◌+◌, ◌-◌, ◌&&◌, nat_le, List, [], ◌∷◌, ◌++◌, Result, Ok, Err, if◌then◌else◌, ◌==◌, length}
use Rattle.std.specs.Char.{encode_utf8}
use Rattle.std.specs.Str.{encode_utf8_all}
use Rattle.model.specs.lists.Syntax.{Position, Name}
use Rattle.text_reader.specs.declared.errors.Mistake.{Mistake}
use Rattle.text_reader.specs.declared.errors.Mistake.TheVariants.{CommentEnd, Depth, ConstantName}
use Rattle.text_reader.specs.Lexemes.{Lexeme, begin_list, end_list, constant, expected, Wrong, ◌>>=◌, word_token, last_bound, or_mistake}
use Rattle.text_reader.specs.Pieces.{Piece, space, line, block, left, right, bind, name, sign, endless, alone, spelling, size, is_in_word, is_space, after_comment}

abbrev pub Tokens : Type 0
Tokens = List Lexeme

abbrev pub mistake_of : {A : Type 0} → Result A Mistake → Mistake
mistake_of (Ok x) = CommentEnd
mistake_of (Err m) = m

-- what a piece at a position adds to the tokens before it
abbrev pub added : Piece → Position → Tokens → Result Tokens Wrong
added (space c) at done = Ok done
added (line cs) at done = Ok done
added (block cs) at done = Ok done
added left at done = Ok (done ++ begin_list at ∷ [])
added right at done = Ok (done ++ end_list at ∷ [])
added bind at done = or_mistake at (last_bound done)
added (name cs) at done = word_token (record { text = encode_utf8_all cs; at = at }) >>= (λ t. Ok (done ++ t ∷ []))
added (sign cs) at done = Ok (done ++ constant (record { text = encode_utf8_all cs; at = record at { offset = at.offset + 1 } }) at ∷ [])
added (endless cs) at done = Err (expected (mistake_of (after_comment 1 32 cs)), at)
added alone at done = Err (expected ConstantName, record at { offset = at.offset + 1 })

-- the tokens of pieces from an offset on, after those before them
abbrev pub tokens_after : ℕ → ℕ → List Piece → Tokens → Result Tokens Wrong
tokens_after file offset [] done = Ok done
tokens_after file offset (p ∷ ps) done = added p (record { file = file; offset = offset }) done >>= tokens_after file (offset + size (spelling p)) ps

-- ---- character by character

pub data Mode : Type 0 where
  between : Mode
  in_line : Mode
  opened : Position → Mode
  in_block : Position → ℕ → ℕ → Mode
  signed : Position → Mode
  in_name : Name → Mode
  in_constant : Name → Position → Mode

abbrev pub Read : Type 0
Read = Result (Mode × Tokens) Wrong

-- what ends here
abbrev pub finished : ℕ → ℕ → Mode → Tokens → Result Tokens Wrong
finished file end between done = Ok done
finished file end in_line done = Ok done
finished file end (opened p) done = Ok (done ++ begin_list p ∷ [])
finished file end (in_block p depth last) done = Err (expected CommentEnd, p)
finished file end (signed p) done = Err (expected ConstantName, record { file = file; offset = end })
finished file end (in_name n) done = word_token n >>= (λ t. Ok (done ++ t ∷ []))
finished file end (in_constant n p) done = Ok (done ++ constant n p ∷ [])

abbrev pub with_char : Name → ℕ → Name
with_char n c = record n { text = n.text ++ encode_utf8 c }

-- a character that stands in no token
unfoldable pub begun : Position → ℕ → Tokens → Read
begun p c done =
    if c == 40 then Ok (opened p, done)
    else if c == 59 then Ok (in_line, done)
    else if c == 36 then Ok (signed p, done)
    else if c == 41 then Ok (between, done ++ end_list p ∷ [])
    else if c == 64 then or_mistake p (last_bound done) >>= (λ ts. Ok (between, ts))
    else if is_space p.offset c then Ok (between, done)
    else Ok (in_name (record { text = encode_utf8 c; at = p }), done)

unfoldable pub in_comment : Position → ℕ → ℕ → ℕ → Result Mode Wrong
in_comment p depth last c =
    if last == 40 && c == 59 then (if nat_le 1000 depth then Err (expected Depth, p) else Ok (in_block p (depth + 1) 32))
    else if last == 59 && c == 41 then (if nat_le depth 1 then Ok between else Ok (in_block p (depth - 1) 32))
    else Ok (in_block p depth c)

abbrev pub ended : ℕ → Mode → Position → ℕ → Tokens → Read
ended end m p c done = finished p.file end m done >>= begun p c

-- one more character
abbrev pub step : ℕ → Mode → Position → ℕ → Tokens → Read
step end between p c done = begun p c done
step end in_line p c done = if c == 10 then Ok (between, done) else Ok (in_line, done)
step end (opened o) p c done = if c == 59 then Ok (in_block o 1 32, done) else ended end (opened o) p c done
step end (in_block o depth last) p c done = in_comment o depth last c >>= (λ m. Ok (m, done))
step end (signed s) p c done = if is_in_word c then Ok (in_constant (record { text = encode_utf8 c; at = p }) s, done) else Err (expected ConstantName, p)
step end (in_name n) p c done = if is_in_word c then Ok (in_name (with_char n c), done) else ended end (in_name n) p c done
step end (in_constant n s) p c done = if is_in_word c then Ok (in_constant (with_char n c) s, done) else ended end (in_constant n s) p c done

-- the tokens of a text from here on
unfoldable pub run : ℕ → ℕ → Mode → ℕ → List ℕ → Tokens → Result Tokens Wrong
run file end m offset [] done = finished file end m done
run file end m offset (c ∷ cs) done =
    step end m (record { file = file; offset = offset }) c done >>= (λ s. run file end s.0 (offset + length (encode_utf8 c)) cs s.1)

-- how far the front of a text is read: no end comes
abbrev pub reached : ℕ → ℕ → Mode → ℕ → List ℕ → Tokens → Read
reached file end m offset [] done = Ok (m, done)
reached file end m offset (c ∷ cs) done =
    step end m (record { file = file; offset = offset }) c done >>= (λ s. reached file end s.0 (offset + length (encode_utf8 c)) cs s.1)

use Rattle.std.proofs.Common.{◌≡◌, List, drop, map}
use Rattle.model_code.specs.Notation.{Notation}
use Rattle.model_code.specs.Pieces as P
use Rattle.model_code.specs.Pieces.{put_all}
use Rattle.rust_text.specs.TokenViews.{word_view}
use Rattle.rust_text.specs.Adding.{ahead}
use Rattle.rust_text.proofs.added.add_words.Given as goal

abbrev pub invariant-loop-word : goal.invariant-loop-word
invariant-loop-word l =
    (p : Notation) (rest : List P.CodePiece) → ahead p l.out.items (put_all (map word_view (drop l.word-index l.words)) rest) ≡ ahead p l.fn.out.items (put_all (map word_view l.words) rest)

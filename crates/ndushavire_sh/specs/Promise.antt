-- What the Sh server's exported call promises of what it returns.
use Rattle.std.specs.Prelude.{ℕ, ◌≡◌, List}
use Rattle.ndushavire.specs.Word.{call_word}
use Rattle.ndushavire_sh.specs.Lent.{Lent}
use Rattle.ndushavire_sh.specs.Serve.{sh_serve}

-- the word, and the buffer at exit, are those of `sh_serve`, for every input, refusals too
pub record ShDecidePromise (x : Lent) (r : ℕ) (buffer' : List ℕ) : Type 0 where
  pub word_is : r ≡ call_word (sh_serve x).call
  pub buffer_is : buffer' ≡ (sh_serve x).buffer

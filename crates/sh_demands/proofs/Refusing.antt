-- Demand 1 for the Sh server: an answer, or exactly one of six refusals; what a refused call leaves, and what an answered one writes.
use Rattle.std.specs.Prelude.{Result, Ok}
use Rattle.octets.specs.Standard.{ℕ, ◌≤◌, Bool, true, false, true≢false, ◌≡◌, refl, sym, ap, ◌∙◌, arith, length, drop, drop_at}
use Rattle.octets.specs.Run.{over}
use Rattle.table.specs.Area.{table_in, check_area}
use Rattle.refusals.specs.Early.{check_value, early}
use Rattle.refusals.specs.Trial.{Trial}
use Rattle.refusals.proofs.Passing.{passes}
use Rattle.refusals.proofs.Trials.{tried_by}
use Rattle.calling.specs.Call.{Answer, Answered}
use Rattle.sh.proofs.Rooms.{answer_fits}
use Rattle.ndushavire.specs.Reads.{call_number, call_value}
use Rattle.ndushavire_sh.specs.Lent.{Lent, terms_in}
use Rattle.ndushavire_sh.specs.Serve.{Served, trials_of, refused, answer_of, answered, serve_checked, sh_serve}
use Rattle.demands.specs.Call.{Exactly}
use Rattle.demands.proofs.Trials.{exactly}
use Rattle.sh_demands.specs.Call.{turned_away}

module _ (x : Lent) where
  abbrev checked : Result ℕ ℕ
  checked = check_area x.table (length x.profile)

  abbrev answer : Served
  answer = answered x (check_value checked)

  -- What holds of any refusal, and of the answer, holds of the call.
  pub any_call : (P : Bool → Served → Type 0) → ((r : Trial) → P true (refused x r)) → P false answer → P (turned_away x) (sh_serve x)
  unfolding serve_checked
  any_call P f o = tried_by P (λ r. Unit) (refused x) answer (λ r q h. f r) o (trials_of x checked) (tt, (tt, (tt, (tt, (tt, (tt, tt))))))

  pub refusals : Exactly (trials_of x checked) (call_number (sh_serve x).call)
  unfolding serve_checked refused answered
  refusals =
      exactly (refused x) answer (λ (s : Served). call_number s.call) (λ r. refl) refl (trials_of x checked) (
        refl,
        (refl, (refl, (refl, (refl, (refl, tt))))),
        (
          refl,
          (refl, (refl, (refl, (refl, tt)))),
          (refl, (refl, (refl, (refl, tt))), (refl, (refl, (refl, tt)), (refl, (refl, tt), (refl, tt, tt)))),
        ),
      )

  pub refused_kept : turned_away x ≡ true → (sh_serve x).buffer ≡ x.buffer
  unfolding refused
  refused_kept = any_call (λ b s. b ≡ true → s.buffer ≡ x.buffer) (λ r e. refl) (λ e. absurd (true≢false (sym e)))

  -- what is answered is not refused
  pub answered_taken : (a : Answer) → (sh_serve x).call ≡ Answered a → turned_away x ≡ false
  unfolding refused
  answered_taken a =
      any_call (λ b s. s.call ≡ Answered a → b ≡ false) (λ r e. let n : ◌≡◌ {A = ℕ} 0 1 = cc in absurd (omega arith)) (λ e. refl)

  pub answer_is : turned_away x ≡ false → sh_serve x ≡ answer
  answer_is = any_call (λ b s. b ≡ false → s ≡ answer) (λ r e. absurd (true≢false e)) (λ e. refl)

  pub answered_is : (count : ℕ) → checked ≡ Ok count → turned_away x ≡ false → sh_serve x ≡ answered x count
  answered_is count s e = answer_is e ∙ ap (λ (c : Result ℕ ℕ). answered x (check_value c)) s

  pub buffer_past : drop (call_value (sh_serve x).call) (sh_serve x).buffer ≡ drop (call_value (sh_serve x).call) x.buffer
  unfolding refused answered over
  buffer_past =
      let bytes = answer_of x (check_value checked) in
      any_call (λ b s. drop (call_value s.call) s.buffer ≡ drop (call_value s.call) x.buffer) (λ r. refl)
      (drop_at bytes (drop (length bytes) x.buffer) (length bytes) refl)

  -- every answer fits
  pub fits : early (terms_in x) x.request x.buffer ≡ 0 → (count : ℕ) → checked ≡ Ok count → length (answer_of x count) ≤ 36864
  unfolding check_area
  fits e count s =
      answer_fits (table_in x.table) count (record { file = length x.profile; checked = s }) (terms_in x) x.request x.buffer _
      (passes (terms_in x) x.request x.buffer refl (omega (arith, e)))

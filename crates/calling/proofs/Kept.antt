-- Whatever a call comes to, a table is sound after it with so many records if it was before, and so is the vector file; an unsound one stays as it is.
use Rattle.std.specs.Prelude.{Result, Ok, Err}
use Rattle.octets.specs.Standard.{ℕ, ◌≤◌, Bool, true, false, true≢false, ◌≡◌, refl, sym, ◌∙◌, length, arith, ltb-false}
use Rattle.table.specs.Check.{check_table}
use Rattle.table.specs.SoundTable.{SoundTable}
use Rattle.vectors.specs.VectorFile.{check_vectors, SoundVectors}
use Rattle.rewrite.proofs.Sound.{keeping_sound}
use Rattle.deciding.proofs.Kept.{decide_keeping, decide_vectors}
use Rattle.refusals.proofs.Passing.{neither}
use Rattle.calling.specs.Lent.{Lent, dialect_in}
use Rattle.refusals.specs.Trial.{Trial, any_holds}
use Rattle.refusals.specs.Early.{unknown_peer, small_buffer, wrong_size, no_request, is_bad, check_value, wrong_length}
use Rattle.calling.specs.Serve.{Served, check_of, trials}
use Rattle.calling.specs.Serve.{refused, answered, answered_by, decided, serve_found, serve_table_by, serve_table}
use Rattle.refusals.proofs.Trials.{tried_by}

-- a file that is not bad is sound
pub sound_count : (c : Result ℕ ℕ) → is_bad c ≡ false → c ≡ Ok (check_value c)
sound_count (Ok count) e = refl
sound_count (Err block) e = absurd (true≢false e)

module _ (x : Lent) where
  -- what holds where none of the seven does
  pub record Taken : Type 0 where
    pub peer : unknown_peer x.terms ≡ false
    pub room : 36864 ≤ length x.buffer
    pub size : wrong_size x.request ≡ false
    pub lengths : wrong_length x.request ≡ false
    pub table : check_of x ≡ Ok (check_value (check_of x))
    pub vectors : SoundVectors x.vectors

  pub taken : any_holds (trials x) ≡ false → Taken
  unfolding any_holds
  taken e =
      let p = neither (unknown_peer x.terms) _ e in
      let a = neither (small_buffer x.buffer) _ p.1 in
      let b = neither (wrong_size x.request) _ a.1 in
      let c = neither (wrong_length x.request) _ b.1 in
      let d = neither (no_request x.request) _ c.1 in
      let f = neither (is_bad (check_of x)) _ d.1 in
      let g = neither (is_bad (check_vectors x.vectors)) _ f.1 in
      record {
        peer = p.0;
        room = ltb-false _ _ a.0;
        size = b.0;
        lengths = c.0;
        table = sound_count (check_of x) f.0;
        vectors = record { count = check_value (check_vectors x.vectors); checked = sound_count (check_vectors x.vectors) g.0 };
      }

  -- what holds of any refusal, and of the answer where none is given, holds of the call
  pub serve_either : (P : Bool → Served → Type 0) → ((r : Trial) → P true (refused x r)) → P false (answered x (decided x))
      → P (any_holds (trials x)) (serve_table x)
  unfolding serve_table_by serve_found
  serve_either P f o =
      tried_by P (λ r. Unit) (refused x) (answered x (decided x)) (λ r q h. f r) o (trials x) (tt, (tt, (tt, (tt, (tt, (tt, (tt, tt)))))))

  pub answered_is : any_holds (trials x) ≡ false → serve_table x ≡ answered x (decided x)
  answered_is = serve_either (λ b s. b ≡ false → s ≡ answered x (decided x)) (λ r e. absurd (true≢false e)) (λ e. refl)

  -- what holds of refusals by 1 to 12, and of the answer over sound files, holds of the call
  pub serve_by_lem : (P : Served → Type 0) → ((r : Trial) → 1 ≤ r.number → r.number ≤ 12 → P (refused x r)) → (Taken → P (answered x (decided x)))
      → P (serve_table x)
  unfolding serve_table_by serve_found
  serve_by_lem P f o =
      tried_by (λ (b : Bool) (s : Served). any_holds (trials x) ≡ b → P s) (λ r. (1 ≤ r.number) × (r.number ≤ 12)) (refused x) (answered x (decided x))
      (λ r q h e. f r q.0 q.1) (λ e. o (taken e)) (trials x) (
        (omega arith, omega arith),
        (
          (omega arith, omega arith),
          (
            (omega arith, omega arith),
            ((omega arith, omega arith), ((omega arith, omega arith), ((omega arith, omega arith), ((omega arith, omega arith), tt)))),
          ),
        ),
      )
      refl

  pub table_checked : check_table (serve_table x).table (length x.profile) ≡ check_of x
  unfolding refused answered_by
  table_checked =
      serve_by_lem (λ s. check_table s.table (length x.profile) ≡ check_of x) (λ r a b. refl)
      (λ k.
      let sound : SoundTable x.table (check_value (check_of x)) = record { file = length x.profile; checked = k.table } in
      keeping_sound x.table (decided x).table (check_value (check_of x))
      (decide_keeping (dialect_in x) x.request x.table (check_value (check_of x)) x.vectors sound) sound
      ∙ sym k.table)

  pub vectors_checked : check_vectors (serve_table x).vectors ≡ check_vectors x.vectors
  unfolding refused answered_by
  vectors_checked =
      serve_by_lem (λ s. check_vectors s.vectors ≡ check_vectors x.vectors) (λ r a b. refl)
      (λ k. decide_vectors (dialect_in x) x.request x.table (check_value (check_of x)) x.vectors k.vectors)

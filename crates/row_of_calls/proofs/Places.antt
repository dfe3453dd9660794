-- A call behind others: over the parts of the areas that are left, and so over the whole areas.
use Rattle.octets.specs.Standard.{ℕ, ◌+◌, ◌-◌, ◌*◌, ◌≤◌, List, [], ◌++◌, ◌≡◌, ap, ◌∙◌, append-nil, arith, length, take, drop, length-drop, length-append}
use Rattle.octets.specs.Standard.{length-take-le, drop_of_length-le, take_all}
use Rattle.octets.proofs.Writes.{lent as part, back}
use Rattle.reading.specs.declared.Terms.{Terms}
use Rattle.calling.specs.Lent.{lent}
use Rattle.row_of_calls.specs.Leaves.{Serves, ServesAt}
use Rattle.row_of_calls.specs.declared.Done.{Done}

-- a part that is lent to the end, and the whole where it has come back
module _ (s : List ℕ) (n : ℕ) where
  part_is : part n s ≡ drop n s
  part_is = take_all (length s - n) (drop n s) (rw length-drop (omega arith))

  back_is : (t : List ℕ) → back n s t ≡ take n s ++ t
  back_is t =
      let z : drop (length s - n) (drop n s) ≡ [] = drop_of_length-le (drop n s) {i = length s - n} (rw length-drop (omega arith)) in
      ap (λ (r : List ℕ). take n s ++ (t ++ r)) z ∙ ap (λ (r : List ℕ). take n s ++ r) (append-nil t)

module _ (req t file v a : List ℕ) (terms : Terms) (w : List ℕ) (used served : ℕ) where
  pub part_used : {d : Done} {t' v' a' w' w₀ : List ℕ} → used ≤ length a → Serves (lent req t file v (part used a) terms) w₀ d t' v' a' w'
      → used + d.used ≤ length (back used a a')
  part_used {a' = a'} h q =
      let l : length (back used a a') ≡ used + length a' =
      ap length (back_is a used a') ∙ length-append (take used a) a' ∙ ap (λ (m : ℕ). m + length a') (length-take-le used a h) in
      omega (arith, q.within, l)

  pub serves_at_lem : {d : Done} {t' v' a' w' : List ℕ} {end : ℕ} → end ≡ used + d.used → used ≤ length a → 8 * served + 8 ≤ length w
      → Serves (lent req t file v (part used a) terms) (part (8 * served) w) d t' v' a' w'
      → ServesAt (lent req t file v a terms) w used served (record { used = end; altered = d.altered; marked = d.marked }) t' v' (back used a a')
      (back (8 * served) w w')
  serves_at_lem {d} {t'} {v'} {a'} {w'} {end} e h k q =
      let o : Serves (lent req t file v (drop used a) terms) (drop (8 * served) w) d t' v' a' w' = rw (part_is a used, part_is w (8 * served)) at q in
      record {
        used_is = e ∙ ap (λ (m : ℕ). used + m) o.used_is;
        within = rw e (part_used h q);
        room = omega (arith, k);
        altered_is = o.altered_is;
        marked_is = o.marked_is;
        table_is = o.table_is;
        vectors_is = o.vectors_is;
        answers_is = back_is a used a' ∙ ap (λ (r : List ℕ). take used a ++ r) o.answers_is;
        words_is = back_is w (8 * served) w' ∙ ap (λ (r : List ℕ). take (8 * served) w ++ r) o.wrote.bytes;
      }

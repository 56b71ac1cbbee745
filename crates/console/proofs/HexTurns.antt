-- The turns of the loop that reads pairs of hexadecimal digits.
use Rattle.std.proofs.Common.{◌≡◌, ℕ, ◌+◌, ◌<◌, ◌≤◌, List, [], ◌∷◌, ◌++◌, length, get_or, drop, slice_index, Some, None, Option, Ok, Err, ok_or, sym, refl, ap, ◌∙◌}
use Rattle.std.proofs.lemmas.List.{append-nil, append_assoc, at_drop_more, at_drop_all}
use Rattle.console.specs.declared.failure.Failure.{Failure}
use Rattle.console.specs.declared.failure.Failure.TheVariants.{Refused, Memory}
use Rattle.console.specs.Told.{Told}
use Rattle.console.specs.Hex.{digit_of, byte_of, behind, joined_to, pairs_of}

-- the byte of a pair
abbrev pub pair_of : List ℕ → Option ℕ
pair_of p = byte_of (digit_of (slice_index p 0)) (digit_of (slice_index p 1))

behind_behind : (xs ys : List ℕ) (o : Option (List ℕ)) → behind xs (behind ys o) ≡ behind (xs ++ ys) o
behind_behind xs ys None = refl
behind_behind xs ys (Some bs) = ap Some (sym (append_assoc xs ys bs))

module _ (xs : List ℕ) (ps : List (List ℕ)) (i : ℕ) (all : Option (List ℕ)) (so_far : behind xs (pairs_of (drop i ps)) ≡ all) where
  -- what is read from a pair on, by the byte there
  hex_step : (o : Option ℕ) → i < length ps → pair_of (get_or ps i []) ≡ o → behind xs (joined_to o (pairs_of (drop (i + 1) ps))) ≡ all
  unfolding pairs_of
  hex_step o h e = sym (ap (behind xs) (at_drop_more pairs_of ps i [] h ∙ ap (λ p. joined_to p (pairs_of (drop (i + 1) ps))) e)) ∙ so_far

  -- a pair is read
  pub hex_more : (b : ℕ) (bytes : List ℕ) → i < length ps → pair_of (get_or ps i []) ≡ Some b → bytes ≡ xs ++ (b ∷ []) → behind bytes (pairs_of (drop (i + 1) ps)) ≡ all
  hex_more b bytes h e pushed =
      ap (λ bs. behind bs (pairs_of (drop (i + 1) ps))) pushed ∙ sym (behind_behind xs (b ∷ []) (pairs_of (drop (i + 1) ps))) ∙ hex_step (Some b) h e

  -- a pair is no byte
  pub hex_failed : {T E : Type 0} (shown : T → List ℕ) (e : E) (o : Option ℕ) (x : Failure E) → i < length ps → o ≡ pair_of (get_or ps i []) → Err x ≡ ok_or o (Refused e)
      → Told shown (λ f. f) (Err x) (ok_or all e)
  hex_failed shown e None (Refused f) h at is = let none = hex_step None h (sym at) in cc
  hex_failed shown e None (Memory a) h at is = tt
  hex_failed shown e (Some b) x h at is = cc

  -- all pairs are read
  pub hex_all : {E : Type 0} (e : E) → length ps ≤ i → Ok xs ≡ ok_or all e
  unfolding pairs_of
  hex_all e h = ap (λ o. ok_or o e) (sym (ap (behind xs) (at_drop_all pairs_of ps i h) ∙ ap Some (append-nil xs)) ∙ so_far)

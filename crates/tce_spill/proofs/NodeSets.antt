-- What the operations on sets of nodes say of their members.
use Rattle.std.proofs.Common.{◌≡◌, ℕ, ◌^◌, ◌*◌, ◌/◌, ◌%◌, ◌<◌, not, ◌||◌, ◌&&◌, eqb, bit_or, bit_and, bit_xor, sym, ap, ◌∙◌, inl, inr, one-mul, mod-eq_of_lt}
use Rattle.std.proofs.lemmas.Bool.{cases_eq, eq-eqb, ne_eqb}
use Rattle.std.proofs.lemmas.Nat.Bits.{bit_at-pow_same, bit_at-pow_other}
use lib.Pow.{pow-lt}
use Rattle.tce_space.specs.IndexSet.{has, minus}
use Rattle.tce_space.proofs.IndexSetLaws.{has-or, has-minus}
use Rattle.tce_spec.specs.Pieces.{except}

one_shl : (v : ℕ) → v < 32 → 1 * 2 ^ v % 2 ^ 32 ≡ 2 ^ v
one_shl v low = rw one-mul (mod-eq_of_lt (pow-lt low))

in_power : (v u : ℕ) → has (2 ^ v) u ≡ eqb u v
unfolding has
in_power v u =
    elim (cases_eq u v) [
      | inl e ↦ ap (λ k. eqb k 1) (ap (λ k. bit_at_v k) e ∙ bit_at-pow_same v) ∙ sym (eq-eqb u v e)
      | inr ne ↦ ap (λ k. eqb k 1) (bit_at-pow_other v u ne) ∙ sym (ne_eqb u v ne)
    ]
  where
    bit_at_v : ℕ → ℕ
    bit_at_v k = 2 ^ v / 2 ^ k % 2

-- the set of one node
has_one : (v u : ℕ) → v < 32 → has (1 * 2 ^ v % 2 ^ 32) u ≡ eqb u v
has_one v u low = ap (λ n. has n u) (one_shl v low) ∙ in_power v u

swapped : (v u : ℕ) → eqb u v ≡ eqb v u
swapped v u = elim (cases_eq u v) [
  | inl e ↦ eq-eqb u v e ∙ sym (eq-eqb v u (sym e))
  | inr ne ↦ ne_eqb u v ne ∙ sym (ne_eqb v u (λ e. ne (sym e)))
]

pub has_with : (nodes v u : ℕ) → v < 32 → has (bit_or nodes (1 * 2 ^ v % 2 ^ 32)) u ≡ (has nodes u || eqb v u)
has_with nodes v u low = has-or nodes (1 * 2 ^ v % 2 ^ 32) u ∙ ap (λ b. has nodes u || b) (has_one v u low ∙ swapped v u)

pub has_without : (nodes v u : ℕ) → v < 32 → has (bit_xor nodes (bit_and nodes (1 * 2 ^ v % 2 ^ 32))) u ≡ except (has nodes) v u
unfolding minus
has_without nodes v u low = has-minus nodes (1 * 2 ^ v % 2 ^ 32) u ∙ ap (λ b. has nodes u && not b) (has_one v u low)

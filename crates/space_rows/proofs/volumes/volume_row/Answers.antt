use Rattle.std.proofs.Common.{◌≡◌, ◌∙◌, ap, arith, ℕ, ℤ, to_z, of_z, w64, rules}
use Rattle.std.proofs.lemmas.Int.{to_z_pos, to_z-of_z}
use Rattle.space_rows.proofs.VolumeRows.{first_fits, last_fits}
use Rattle.space_rows.proofs.volumes.volume_row.Goals as goal

pub returns-clause-row : goal.returns-clause-row
returns-clause-row c =
    let v = c.args.volume.now in
    let limits = c.altitude-alt_lower.ensures.limits in
    let lower : to_z w64 (of_z w64 c.altitude-alt_lower.result.0) ≡ c.altitude-alt_lower.result.0 = search rules in
    let upper : to_z w64 (of_z w64 c.altitude-alt_lower.result.1) ≡ c.altitude-alt_lower.result.1 = search rules in
    record {
      entity = to_z-of_z w64 c.args.num c.ranges.num;
      place = to_z_pos w64 c.args.place (omega (arith, c.requires));
      alt_lower = lower ∙ ap (λ (b : ℤ × ℤ). b.0) c.altitude-alt_lower.ensures.bounds;
      alt_upper = upper ∙ ap (λ (b : ℤ × ℤ). b.1) c.altitude-alt_lower.ensures.bounds;
      time_start = ap (λ (b : ℕ × ℕ). to_z w64 b.0) c.time-first.ensures ∙ to_z_pos w64 v.time.0 (first_fits v limits);
      time_end = ap (λ (b : ℕ × ℕ). to_z w64 b.1) c.time-first.ensures ∙ to_z_pos w64 v.time.1 (last_fits v limits);
    }

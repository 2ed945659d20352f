-- All rows of the table are sound.
use Rattle.vir_rules.specs.Table.{table}
use Rattle.vir_sound.proofs.SoundRows.{AllSound, both_sound, rows_from}
use Rattle.vir_sound.proofs.ElectingRows.{electing_sound, until_electing_sound}
use Rattle.vir_sound.proofs.SizeRows.{sizes_sound, until_sizes_sound}
use Rattle.vir_sound.proofs.KeepingRows.{keeping_sound, until_keeping_sound}
use Rattle.vir_sound.proofs.LiftRows.{lifts_sound, until_lifts_sound}
use Rattle.vir_sound.proofs.WinnerRows.{until_winners_sound, winners_sound}
use Rattle.vir_sound.proofs.DisjointRows.{disjoint_sound}
use Rattle.vir_sound.proofs.NeutralRows.{neutral_sound}

-- each row of the table is sound
pub rows_sound : AllSound table
unfolding table
rows_sound =
    both_sound (rows_from 1 15) (rows_from 16 80) electing_sound (
    both_sound (rows_from 16 8) (rows_from 24 72) sizes_sound (
    both_sound (rows_from 24 13) (rows_from 37 59) keeping_sound (
    both_sound (rows_from 37 20) (rows_from 57 39) lifts_sound (
    both_sound (rows_from 57 20) (rows_from 77 19) winners_sound (
    both_sound (rows_from 77 6) (rows_from 83 13) disjoint_sound (
    both_sound (rows_from 83 6) (rows_from 89 7) neutral_sound (
    both_sound (rows_from 89 1) (rows_from 90 6) until_electing_sound (
    both_sound (rows_from 90 2) (rows_from 92 4) until_sizes_sound (
    both_sound (rows_from 92 1) (rows_from 93 3) until_keeping_sound (
    both_sound (rows_from 93 1) (rows_from 94 2) until_lifts_sound (
    until_winners_sound)))))))))))

use Rattle.std.proofs.Common.{◌≡◌, Err, refl, inl}
use Rattle.vir_files.specs.Judges.{texts}
use Rattle.vir_files.specs.Values.{SeesText}
use Rattle.vir_files.proofs.PerformLemmas.{reads_fault, reads_wanting, selected_err, selected_ok}
use Rattle.vir_files.proofs.TextLemmas.{reads_text, reads_too_long}
use Rattle.vir_files.proofs.text_file.text_file.Goals as goal
use Rattle.vir_outside.specs.declared.reading.ReadStop.TheVariants as stop

pub returns-in-Ok : goal.returns-in-Ok
returns-in-Ok g c =
    reads_text _ _ _ _ c.in-Ok.text _
    (record {
      asked = c.in-Ok.ensures.asked;
      later = c.in-Ok.ensures.later;
      left = record { takes = c.in-Ok.ensures.taken; is_selected = selected_ok _ _ _ _ c.in-Ok.ensures.selected };
    })
    c.in-Ok.ensures.content c.in-Ok.ensures.within refl

pub returns-in-Err-Fault : goal.returns-in-Err-Fault
returns-in-Err-Fault g c =
    let is : c.read_whole.result ≡ Err stop.Fault = cc in
    reads_fault (texts c.args.limit) SeesText _ _ _ _
    (record {
      asked = c.read_whole.ensures.asked;
      later = c.read_whole.ensures.later;
      left = record { takes = c.read_whole.ensures.taken; is_selected = inl refl };
    }) (c.read_whole.ensures.fault is) refl

pub returns-in-Err-TooLong : goal.returns-in-Err-TooLong
returns-in-Err-TooLong g c =
    let is : c.read_whole.result ≡ Err stop.TooLong = cc in
    reads_too_long _ _ _ _ _
    (record {
      asked = c.read_whole.ensures.asked;
      later = c.read_whole.ensures.later;
      left = record {
        takes = c.read_whole.ensures.taken;
        is_selected = selected_err stop.TooLong stop.Fault _ _ (λ e. cc) (rw is at c.read_whole.ensures.selected);
      };
    })
    (c.read_whole.ensures.too_long is) refl

pub returns-in-Err-Memory : goal.returns-in-Err-Memory
returns-in-Err-Memory g c =
    let is : c.read_whole.result ≡ Err stop.Memory = cc in
    reads_wanting (texts c.args.limit) SeesText _ _ _ _
    (record {
      asked = c.read_whole.ensures.asked;
      later = c.read_whole.ensures.later;
      left = record {
        takes = c.read_whole.ensures.taken;
        is_selected = selected_err stop.Memory stop.Fault _ _ (λ e. cc) (rw is at c.read_whole.ensures.selected);
      };
    }) refl

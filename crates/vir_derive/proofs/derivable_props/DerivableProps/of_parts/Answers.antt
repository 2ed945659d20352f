use Rattle.std.proofs.Common.{refl}
use Rattle.vir_rules.specs.Forms.{form_seen}
use Rattle.vir_derive.specs.Numbers.{every}
use Rattle.vir_derive.proofs.Telling.{tells_by_fields, seen_every, tells_every}
use Rattle.vir_derive.proofs.derivable_props.DerivableProps.of_parts.Goals as goal

pub returns-clause-within : goal.returns-clause-within
returns-clause-within c = λ numbers enough term seen.
    tells_by_fields numbers (record {
      ne = c.derives.result;
      ea = c.derives-2.result;
      el = c.derives-3.result;
      defers_one = c.derives-4.result;
      defers_other = c.defers_other.result;
      rejects = c.rejects.result;
      elim_one =
          c.derives-5.result;
      nb = c.derives-6.result;
      decr = c.derives-7.result;
      dli = c.derives-8.result;
      imono =
          c.derives-9.result;
      dimono = c.derives-10.result;
      dmono = c.derives-11.result;
      mono = c.derives-12.result;
      cc =
          c.derives-13.result;
      dcc = c.derives-14.result;
      cprog = c.derives-15.result;
      ccomp = c.derives-16.result;
      neut =
          c.derives-17.result;
      other = c.defers_other.ensures.other;
    }) term
    (c.derives.ensures numbers enough term seen refl)
    (c.derives-2.ensures numbers enough term seen refl)
    (c.derives-3.ensures numbers enough term seen refl)
    (c.derives-4.ensures numbers enough term seen enough.0)
    (c.defers_other.ensures.derivable numbers enough term seen)
    (c.rejects.ensures numbers enough term seen)
    (c.derives-5.ensures numbers enough term seen enough.0)
    (c.derives-6.ensures numbers enough term seen refl)
    (c.derives-7.ensures numbers enough term seen refl)
    (c.derives-8.ensures numbers enough term seen refl)
    (c.derives-9.ensures numbers enough term seen refl)
    (c.derives-10.ensures numbers enough term seen refl)
    (c.derives-11.ensures numbers enough term seen refl)
    (c.derives-12.ensures numbers enough term seen refl)
    (c.derives-13.ensures numbers enough term seen refl)
    (c.derives-14.ensures numbers enough term seen refl)
    (c.derives-15.ensures numbers enough term seen refl)
    (c.derives-16.ensures numbers enough term seen refl)
    (c.derives-17.ensures numbers enough term seen refl)

pub returns-clause-all : goal.returns-clause-all
returns-clause-all c = λ term seen'. (
    let seen = seen_every (form_seen c.args.form) c.args.first c.args.second c.args.opposed term seen' in
    tells_every (record {
      ne = c.derives.result;
      ea = c.derives-2.result;
      el = c.derives-3.result;
      defers_one = c.derives-4.result;
      defers_other = c.defers_other.result;
      rejects = c.rejects.result;
      elim_one =
          c.derives-5.result;
      nb = c.derives-6.result;
      decr = c.derives-7.result;
      dli = c.derives-8.result;
      imono =
          c.derives-9.result;
      dimono = c.derives-10.result;
      dmono = c.derives-11.result;
      mono = c.derives-12.result;
      cc =
          c.derives-13.result;
      dcc = c.derives-14.result;
      cprog = c.derives-15.result;
      ccomp = c.derives-16.result;
      neut =
          c.derives-17.result;
      other = c.defers_other.ensures.other;
    }) term
    (tells_by_fields every (record {
      ne = c.derives.result;
      ea = c.derives-2.result;
      el = c.derives-3.result;
      defers_one = c.derives-4.result;
      defers_other = c.defers_other.result;
      rejects = c.rejects.result;
      elim_one =
          c.derives-5.result;
      nb = c.derives-6.result;
      decr = c.derives-7.result;
      dli = c.derives-8.result;
      imono =
          c.derives-9.result;
      dimono = c.derives-10.result;
      dmono = c.derives-11.result;
      mono = c.derives-12.result;
      cc =
          c.derives-13.result;
      dcc = c.derives-14.result;
      cprog = c.derives-15.result;
      ccomp = c.derives-16.result;
      neut =
          c.derives-17.result;
      other = c.defers_other.ensures.other;
    }) term
    (c.derives.ensures every (refl, refl) term seen refl)
    (c.derives-2.ensures every (refl, refl) term seen refl)
    (c.derives-3.ensures every (refl, refl) term seen refl)
    (c.derives-4.ensures every (refl, refl) term seen refl)
    (c.defers_other.ensures.derivable every (refl, refl) term seen)
    (c.rejects.ensures every (refl, refl) term seen)
    (c.derives-5.ensures every (refl, refl) term seen refl)
    (c.derives-6.ensures every (refl, refl) term seen refl)
    (c.derives-7.ensures every (refl, refl) term seen refl)
    (c.derives-8.ensures every (refl, refl) term seen refl)
    (c.derives-9.ensures every (refl, refl) term seen refl)
    (c.derives-10.ensures every (refl, refl) term seen refl)
    (c.derives-11.ensures every (refl, refl) term seen refl)
    (c.derives-12.ensures every (refl, refl) term seen refl)
    (c.derives-13.ensures every (refl, refl) term seen refl)
    (c.derives-14.ensures every (refl, refl) term seen refl)
    (c.derives-15.ensures every (refl, refl) term seen refl)
    (c.derives-16.ensures every (refl, refl) term seen refl)
    (c.derives-17.ensures every (refl, refl) term seen refl)))

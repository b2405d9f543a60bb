-- Marks on pars change no rule and no meaning.
mod Kept
mod Bodies

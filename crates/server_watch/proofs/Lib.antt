mod Restarts
mod Salts
mod Verdicts

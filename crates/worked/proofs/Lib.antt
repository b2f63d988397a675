mod Letters
mod Looped
